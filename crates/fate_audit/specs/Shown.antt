-- What records show of each node, gathered in one pass over them.
use Rattle.std.specs.Prelude.{◌≡◌, ℕ, ◌<◌, nat_lt, List, [], ◌∷◌, ◌++◌, length, slice_set, if◌then◌else◌}
use Rattle.node_machine.specs.declared.Ended.{Ended}
use Rattle.node_machine.specs.declared.Key.{Key}
use Rattle.node_machine.specs.declared.Outcome.{Outcome}
use Rattle.run_plan.specs.Plan.{Plan, count_of}
use Rattle.node_machine.specs.declared.Record.{Record}
use Rattle.node_machine.specs.declared.Record.TheVariants.{End}
use Rattle.sched_core.specs.Run.{history}
use Rattle.sched_core.specs.Fate.{Fate, shown}
use Rattle.fate_audit.specs.Fates.{fate_at}

-- one fate for each ordinary node: what the records show of it
pub record AreShown (plan : Plan) (past : List Record) (fates : List Fate) : Type 0 where
  pub many : length fates ≡ count_of plan
  pub each : (node : ℕ) → node < count_of plan → fate_at fates node ≡ shown plan past node

-- a fate with other phases that ended
abbrev pub with_history : Fate → List Ended → Fate
with_history fate phases = record fate { history = phases }

-- The same, with the phases that ended in the part `gone` of the records alone.
pub record AreShownWith (plan : Plan) (past gone : List Record) (fates : List Fate) : Type 0 where
  pub many : length fates ≡ count_of plan
  pub each : (node : ℕ) → node < count_of plan → fate_at fates node ≡ with_history (shown plan past node) (history gone node)

-- a phase that ended, as the history of its node lists it
abbrev pub ended_of : Key → Outcome → Ended
ended_of key outcome = record { attempt = key.attempt; phase = key.phase; outcome = outcome }

-- a fate with one more phase that ended
abbrev pub with_ended : Fate → Ended → Fate
with_ended fate ended = with_history fate (fate.history ++ ended ∷ [])

-- fates with the phase of a node that a record ends; a number that is not among them changes nothing
abbrev pub with_ending : List Fate → Record → List Fate
with_ending fates (End key outcome) =
    if nat_lt key.node (length fates) then slice_set fates key.node (with_ended (fate_at fates key.node) (ended_of key outcome)) else fates
with_ending fates _ = fates
