-- What a core keeps beside its records is what these say.
use Rattle.std.specs.Prelude.{◌≡◌, ℕ, Bool, List, Option, Some, None, nat_lt, if◌then◌else◌}
use Rattle.node_machine.specs.declared.Record.{Record}
use Rattle.node_machine.specs.declared.Record.TheVariants.{Life, Launch, End, Finish}
use Rattle.run_plan.specs.Plan.{Plan, count_of}
use Rattle.throttles.specs.Throttled.{Throttled}
use Rattle.sched_core.specs.declared.states.Looked.{Looked}
use Rattle.sched_core.specs.Core.{Shows}
use Rattle.sched_core.specs.Limits.{IsThrottled}
use Rattle.sched_core.specs.Notes.{IsNoted}
use Rattle.sched_core.specs.States.{NodeStates, AreMany, AreLeft, IsStateOf}
use Rattle.sched_core.specs.Queued.{Classed, IsQueued}
use Rattle.sched_core.specs.Tally.{IsTallied}

pub record IsKept (plan : Plan) (past : List Record) (states : NodeStates) (aborted : Bool) (status jobs : ℕ) (throttles : Throttled) (failed done : ℕ) (queue : Classed) : Type 0 where
  pub shows : Shows plan past states.runs aborted jobs
  pub throttled : IsThrottled plan past throttles
  pub noted : IsNoted plan past states.notes failed
  pub tallied : IsTallied plan past done status
  pub many : AreMany plan states
  pub left : AreLeft plan aborted states.runs states.left
  pub queued : IsQueued plan aborted states.runs states.left queue

-- a node's place, and FINAL's for what comes after it
abbrev pub own_place : Plan → ℕ → ℕ
own_place plan node = if nat_lt node (count_of plan) then node else count_of plan

-- the place by whose state a record is judged: its node's, and FINAL's for the end of the run
abbrev pub judged_place : Plan → Record → ℕ
judged_place plan Life = count_of plan
judged_place plan (Launch key number) = own_place plan key.node
judged_place plan (End key outcome) = own_place plan key.node
judged_place plan (Finish status) = count_of plan

-- a node's state, lent
abbrev pub IsLookedAt : Plan → List Record → ℕ → Option Looked → Type 0
IsLookedAt plan past node None = ⊥
IsLookedAt plan past node (Some looked) = (looked.node ≡ node) × IsStateOf plan past node looked.state

-- that of the place of a record, but of a life
abbrev pub IsLookedFor : Plan → List Record → Record → Option Looked → Type 0
IsLookedFor plan past Life looked = looked ≡ None
IsLookedFor plan past (Launch key number) looked = IsLookedAt plan past (judged_place plan (Launch key number)) looked
IsLookedFor plan past (End key outcome) looked = IsLookedAt plan past (judged_place plan (End key outcome)) looked
IsLookedFor plan past (Finish status) looked = IsLookedAt plan past (count_of plan) looked
