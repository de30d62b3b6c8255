-- Steps of a run, one after another.
use Rattle.std.proofs.Common.{◌≡◌, ℕ, Bool, true, false, List, [], ◌∷◌, Some, refl, sym, ap, ◌∙◌, subst}
use Rattle.std.proofs.lemmas.Bool.{false≢true}
use Rattle.node_machine.specs.declared.Key.{Key}
use Rattle.node_machine.specs.declared.Outcome.{Outcome}
use Rattle.node_machine.specs.declared.Outcome.TheVariants.{NoStart}
use Rattle.throttles.specs.declared.Limits.{Limits}
use Rattle.run_plan.specs.Plan.{Plan}
use Rattle.sched_core.specs.declared.Choice.{Choice}
use Rattle.sched_core.specs.declared.Choice.TheVariants as choices
use Rattle.node_machine.specs.declared.Record.{Record}
use Rattle.sched_core.specs.Run.{is_among, is_nothing, outstanding}
use Rattle.sched_core.specs.Choices.{IsChoice}
use Rattle.job_starter_drive.specs.declared.Call.{Call}
use Rattle.job_starter_drive.specs.declared.Call.TheVariants as calls
use Rattle.job_starter_drive.specs.declared.Started.{Started}
use Rattle.job_starter_drive.specs.Calls.{snapshot_of, AllowsNoMore, AsksForHalt, as_before, seen_now, Telling}
use Rattle.job_starter_drive.specs.Moments.{IsOlderPart}
use Rattle.job_starter_drive.specs.Drives.{Standing, at_rest, AreInStep, IsSpawned, IsStep, launch_round, skip_noop, spawn_child, spawn_failed, child_exits, child_gathered, ends_recorded, see_halt, kill_child, final_verdict, Goes, no_step, one_more, Starts, none_started, one_start, one_halt, Kills, nobody, one_killed}

-- kills are steps where nothing is outstanding
pub goes-kills : (limits : Limits) (plan : Plan) (may : Telling) (past : List Record) (call_log last : List Call)
    → outstanding plan past ≡ [] → Kills call_log last → Goes limits plan may (at_rest past call_log) (at_rest past last)
goes-kills limits plan may past call_log _ empty nobody = no_step
goes-kills limits plan may past call_log _ empty (one_killed {key = key} k ran first) =
    one_more (goes-kills limits plan may past call_log _ empty k) (kill_child ran (ap (is_among key) empty))

-- what may be told stays so, or comes to be less and less
pub allows-self : (may : Telling) → AllowsNoMore may may
allows-self may = ((λ call_log key outcome is. is), (λ is. is), (λ is. is))

pub allows-then : (may may' may'' : Telling) → AllowsNoMore may may' → AllowsNoMore may' may'' → AllowsNoMore may may''
allows-then may may' may'' first second =
    ((λ call_log key outcome is. first.0 call_log key outcome (second.0 call_log key outcome is)), (λ is. first.1 (second.1 is)), (λ is. first.2 (second.2 is)))

module _ (limits : Limits) (plan : Plan) (may may' : Telling) (t : AllowsNoMore may may') where
  step-fewer : (from to : Standing) → IsStep limits plan may' from to → IsStep limits plan may from to
  step-fewer _ _ (launch_round lawful going unhalted step round) = launch_round lawful going unhalted step round
  step-fewer _ _ (skip_noop quiet) = skip_noop quiet
  step-fewer _ _ (spawn_child {key = key} child command may_run) = spawn_child child command (may_run.0, may_run.1, t.0 _ key may_run.0 may_run.2)
  step-fewer _ _ (spawn_failed {key = key} child command may_be) = spawn_failed child command (t.0 _ key NoStart may_be)
  step-fewer _ _ (child_exits {key = key} {outcome = outcome} step held halt ran may_be) = child_exits step held (λ seen. t.2 (halt seen)) ran (t.0 _ key outcome may_be)
  step-fewer _ _ (child_gathered {key = key} {outcome = outcome} gathers way held on few ran may_be) = child_gathered (t.1 gathers) way held on few ran (t.0 _ key outcome may_be)
  step-fewer _ _ ends_recorded = ends_recorded
  step-fewer _ _ (see_halt may_halt unhalted) = see_halt (t.2 may_halt) unhalted
  step-fewer _ _ (kill_child ran free) = kill_child ran free

  -- steps after one another
  pub goes-then : (from between to : Standing) → Goes limits plan may from between → Goes limits plan may' between to → Goes limits plan may from to
  goes-then from between _ first no_step = first
  goes-then from between to first (one_more {between = last} rest step) =
      one_more (goes-then from between last first rest) (step-fewer last to step)

pub no_child : (keys : List Key) → is_nothing keys ≡ true → keys ≡ []
no_child [] h = refl
no_child (key ∷ keys) h = absurd (false≢true h)

pub final-choice : (limits : Limits) (plan : Plan) (past : List Record) (choice : Choice) (verdict : ℕ) → IsChoice limits plan past choice
    → final_verdict choice ≡ Some verdict → IsChoice limits plan past (choices.Finish verdict)
final-choice limits plan past (choices.Start key) verdict chosen is = absurd cc
final-choice limits plan past choices.Wait verdict chosen is = absurd cc
final-choice limits plan past (choices.Finish status) verdict chosen is =
    let same : status ≡ verdict = cc in subst (λ v. IsChoice limits plan past (choices.Finish v)) same chosen

-- what was so later was not before, where it stays
pub not-before : (a b : Bool) → (a ≡ true → b ≡ true) → b ≡ false → a ≡ false
not-before true b stays abort_free = absurd (false≢true (sym abort_free ∙ stays refl))
not-before false b stays abort_free = refl

pub starts-same : (call_log later_log : List Call) → later_log ≡ call_log → Starts call_log later_log
starts-same call_log later_log same = subst (Starts call_log) (sym same) none_started

pub starts-spawned : (plan : Plan) (records : List Record) (key : Key) (answer : Started) (call_log later_log : List Call)
    → IsSpawned plan records key answer call_log later_log → Starts call_log later_log
starts-spawned plan records key answer call_log later_log spawned = subst (Starts call_log) (sym spawned.entry) (one_start none_started)

pub starts-then : (call_log later_log last : List Call) → Starts call_log later_log → Starts later_log last → Starts call_log last
starts-then call_log later_log _ first none_started = first
starts-then call_log later_log _ first (one_start s) = one_start (starts-then call_log later_log _ first s)
starts-then call_log later_log _ first (one_halt s) = one_halt (starts-then call_log later_log _ first s)

-- what is asked of a starter starts nothing
pub starts-asked : (may : Telling) (call_log later_log : List Call) → AsksForHalt may call_log later_log → Starts call_log later_log
starts-asked may call_log _ as_before = none_started
starts-asked may call_log _ (seen_now may_halt unhalted) = one_halt none_started

-- the answer is at most one step
pub goes-asked : (limits : Limits) (plan : Plan) (may : Telling) (past : List Record) (call_log later_log : List Call)
    → AsksForHalt may call_log later_log → Goes limits plan may (at_rest past call_log) (at_rest past later_log)
goes-asked limits plan may past call_log _ as_before = no_step
goes-asked limits plan may past call_log _ (seen_now may_halt unhalted) = one_more no_step (see_halt may_halt unhalted)

-- and who runs is who ran
pub step-asked : (may : Telling) (plan : Plan) (past : List Record) (call_log later_log : List Call)
    → AsksForHalt may call_log later_log → AreInStep plan past call_log → AreInStep plan past later_log
step-asked may plan past call_log _ as_before step = step
step-asked may plan past call_log _ (seen_now may_halt unhalted) step = record { same = step.same; children = step.children }

pub spawned-older : (plan : Plan) (records : List Record) (key : Key) (answer : Started) (call_log later_log : List Call)
    → IsSpawned plan records key answer call_log later_log → IsOlderPart call_log later_log
spawned-older plan records key answer call_log later_log spawned = (calls.Started key (snapshot_of spawned.command) answer ∷ [], spawned.entry)
