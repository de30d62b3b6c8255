-- The ordinary phases that a core would start one after another.
use Rattle.std.specs.Prelude.{◌≡◌, ◌<◌, ◌≤◌, ℕ, List, length, None}
use Rattle.std.specs.List.{All}
use Rattle.node_machine.specs.declared.Key.{Key}
use Rattle.node_machine.specs.declared.Record.{Record}
use Rattle.throttles.specs.declared.Limits.{Limits}
use Rattle.run_plan.specs.Plan.{Plan, count_of}
use Rattle.sched_core.specs.Choices.{startable}
use Rattle.sched_core.specs.Ahead.{launched, AreChosen}

-- They are ordinary and chosen one after another, as many as may be; where there are fewer, no ordinary phase may follow.
-- Where there is none at all, FINAL wasn't asked.
pub record IsRound (limits : Limits) (plan : Plan) (past : List Record) (max : ℕ) (keys : List Key) : Type 0 where
  pub ordinary : All (λ (key : Key). key.node < count_of plan) keys
  pub chosen : AreChosen limits plan past keys
  pub few : length keys ≤ max
  pub all : length keys < max → (node : ℕ) → node < count_of plan → startable limits plan (launched past keys) node ≡ None
