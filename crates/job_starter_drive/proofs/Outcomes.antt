-- The endings of a run whose starter tells what a table says.
use Rattle.std.proofs.Common.{◌≡◌, Bool, true, false, List, [], ◌∷◌, ◌++◌, sym, ◌∙◌, if◌then◌else◌}
use Rattle.std.proofs.lemmas.Bool.{false≢true}
use Rattle.node_machine.specs.declared.Key.{Key}
use Rattle.node_machine.specs.declared.Outcome.{Outcome}
use Rattle.node_machine.specs.declared.Outcome.TheVariants.{Exit, NoStart}
use Rattle.node_machine.specs.Story.{Table, is_noop_job}
use Rattle.throttles.specs.declared.Limits.{Limits}
use Rattle.run_plan.specs.Plan.{Plan, node_at}
use Rattle.node_machine.specs.declared.Record.{Record}
use Rattle.node_machine.specs.declared.Record.TheVariants.{End}
use Rattle.sched_core.specs.Ahead.{launch_of, launched, added, up_to_abort, ends_of}
use Rattle.sched_core.specs.Lives.{HasOutcomesOf}
use Rattle.sched_core.specs.Looks.{stops}
use Rattle.job_starter_drive.specs.declared.Call.{Call}
use Rattle.job_starter_drive.specs.Calls.{Telling}
use Rattle.job_starter_drive.specs.Drives.{Standing, At, at_rest, IsStep, launch_round, skip_noop, spawn_child, spawn_failed, child_exits, child_gathered, ends_recorded, see_halt, kill_child, Goes, no_step, one_more, Drives}

module _ (limits : Limits) (plan : Plan) (may : Telling) (table : Table)
    (tells : (calls : List Call) (key : Key) (outcome : Outcome) → may.may_be calls key outcome → table key.node key.attempt key.phase ≡ outcome) where
  -- these endings are the table's, but for those of the jobs of NOOPs
  abbrev Owes : List (Key × Outcome) → Type 0
  Owes [] = Unit {0}
  Owes (end ∷ owed) = (is_noop_job (node_at plan end.0.node).course end.0.phase ≡ false → table end.0.node end.0.attempt end.0.phase ≡ end.1) × Owes owed

  abbrev Has : Standing → Type 0
  Has (At past call_log keys owed) = HasOutcomesOf plan table past × Owes owed

  owes-more : (owed : List (Key × Outcome)) (key : Key) (outcome : Outcome) → Owes owed
      → (is_noop_job (node_at plan key.node).course key.phase ≡ false → table key.node key.attempt key.phase ≡ outcome) → Owes (owed ++ (key, outcome) ∷ [])
  owes-more [] key outcome owes is = (is, tt)
  owes-more (end ∷ owed) key outcome owes is = (owes.0, owes-more owed key outcome owes.1 is)

  has-launched : (past : List Record) (keys : List Key) → HasOutcomesOf plan table past → HasOutcomesOf plan table (launched past keys)
  has-launched past [] has = has
  has-launched past (key ∷ keys) has = has-launched (launch_of past key ∷ past) keys has

  has-ended : (past : List Record) (owed : List (Key × Outcome)) → HasOutcomesOf plan table past → Owes owed
      → HasOutcomesOf plan table (added past (up_to_abort plan past (ends_of owed)))
  has-ended past [] has owes = has
  has-ended past (end ∷ owed) has owes = go (stops plan past (End end.0 end.1)) (has-ended (End end.0 end.1 ∷ past) owed (owes.0, has) owes.1)
    where
      go : (b : Bool) → HasOutcomesOf plan table (added (End end.0 end.1 ∷ past) (up_to_abort plan (End end.0 end.1 ∷ past) (ends_of owed)))
          → HasOutcomesOf plan table (added past (if b then End end.0 end.1 ∷ [] else End end.0 end.1 ∷ up_to_abort plan (End end.0 end.1 ∷ past) (ends_of owed)))
      go true later = (owes.0, has)
      go false later = later

  step-outcomes : (from to : Standing) → IsStep limits plan may from to → Has from → Has to
  step-outcomes _ _ (launch_round {past = past} {keys = keys} lawful going unhalted step round) has = (has-launched past keys has.0, tt)
  step-outcomes _ _ (skip_noop {key = key} {owed = owed} noop) has = (has.0, owes-more owed key (Exit 0) has.1 (λ no. absurd (false≢true (sym no ∙ noop))))
  step-outcomes _ _ (spawn_child child command may_run) has = has
  step-outcomes _ _ (spawn_failed {call_log = call_log} {key = key} {owed = owed} child command may_be) has = (has.0, owes-more owed key NoStart has.1 (λ no. tells call_log key NoStart may_be))
  step-outcomes _ _ (child_exits {call_log = call_log} {key = key} {outcome = outcome} step held halt ran may_be) has = (has.0, (λ no. tells call_log key outcome may_be, tt))
  step-outcomes _ _ (child_gathered {call_log = call_log} {end = end} {owed = owed} {key = key} {outcome = outcome} gathers way held on few ran may_be) has =
      (has.0, owes-more (end ∷ owed) key outcome has.1 (λ no. tells call_log key outcome may_be))
  step-outcomes _ _ (ends_recorded {past = past} {end = end} {owed = owed}) has = (has-ended past (end ∷ owed) has.0 has.1, tt)
  step-outcomes _ _ (see_halt may_halt unhalted) has = has
  step-outcomes _ _ (kill_child ran free) has = has

  goes-outcomes : (from to : Standing) → Goes limits plan may from to → Has from → Has to
  goes-outcomes from _ no_step has = has
  goes-outcomes from to (one_more {between = between} steps step) has = step-outcomes between to step (goes-outcomes from between steps has)

  pub drives-outcomes : (past : List Record) (call_log : List Call) (after : List Record) (last : List Call) → Drives limits plan may past call_log after last
      → HasOutcomesOf plan table past → HasOutcomesOf plan table after
  drives-outcomes past call_log after last steps has = (goes-outcomes (at_rest past call_log) (at_rest after last) steps (has, tt)).0
