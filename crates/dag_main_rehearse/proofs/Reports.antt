-- The report of a rehearsal is that of the fates.
use Rattle.std.proofs.Common.{◌≡◌, ℕ, Bool, List, Option, Result, Ok, Err, subst}
use Rattle.std.specs.Prelude.{IfOk, IfErr}
use Rattle.node_machine.specs.OutcomeTable.{Entry, SameOutcomes}
use Rattle.throttles.specs.declared.Limits.{Limits}
use Rattle.splices_flat.specs.Opening.{Files}
use Rattle.run_plan.specs.Plan.{Plan}
use Rattle.run_plan.specs.Submitted.{bare_plan}
use Rattle.dag_main_rehearse.specs.Rehearsed.{HasEntries, IsRehearsalOf, IsRehearsalFault, is_too_long, rehearsing_had_no_memory}
use Rattle.dag_main_rehearse.specs.TooLong.{IsTooLong, IsTableRunFault, has_too_many_records, running_had_no_memory}
use Rattle.dag_main_check.specs.Planned.{IsPlanOf}
use Rattle.dag_main_rehearse.specs.Refusals.{ReportsRun}
use Rattle.dag_main_check.specs.declared.fault.RunFault.{RunFault}
use Rattle.dag_main_check.specs.Warnings.{warning_lines}
use Rattle.dag_main_rehearse.proofs.Rehearsals.{same-run}
use Rattle.dag_main_rehearse.proofs.TooLongRuns.{same-too-long}

pub rehearsal-of : (always_post : Bool) (files : Files) (path : List ℕ) (outcomes : Option (List ℕ)) (limits : Limits) (plan : Plan) (table : List Entry) → IsPlanOf always_post files path plan
    → (entries : List Entry) × HasEntries outcomes entries × SameOutcomes table entries
    → (text warnings : List ℕ) (status : ℕ) → ReportsRun limits plan table text status → warnings ≡ warning_lines plan.graph.dag.warnings
    → IsRehearsalOf always_post files path outcomes limits text warnings status
rehearsal-of always_post files path outcomes limits plan table is (entries, has, same) text warnings status run notes =
    let r : ReportsRun limits (bare_plan always_post plan.graph) table text status = subst (λ (p : Plan). ReportsRun limits p table text status) is.made run in
    record {
      dag = plan.graph.dag;
      order = plan.graph.order;
      entries = entries;
      past = r.past;
      is_dag = is.is_dag;
      is_order = is.is_order;
      has_entries = has;
      run = same-run (bare_plan always_post plan.graph) table entries same limits r.past r.run;
      text_is = r.text_is;
      status_is = r.status_is;
      warnings_are = notes;
    }

pub answered : {A E : Type 0} (P R Q : A → Type 0) (result : Result A E) → ((answer : A) → P answer → R answer → Q answer) → IfOk result P → IfOk result R → IfOk result Q
answered P R Q (Ok answer) more p r = more answer p r
answered P R Q (Err fault) more p r = tt

-- a rehearsal is stopped for too many records, or for lack of memory
stopped-rehearsal : (always_post : Bool) (files : Files) (path : List ℕ) (outcomes : Option (List ℕ)) (limits : Limits) (plan : Plan) (table : List Entry) (fault : RunFault) → IsPlanOf always_post files path plan
    → (entries : List Entry) × HasEntries outcomes entries × SameOutcomes table entries
    → IsTableRunFault limits plan table fault → IsRehearsalFault always_post files path outcomes limits fault
stopped-rehearsal always_post files path outcomes limits plan table _ is (entries, has, same) (has_too_many_records long) =
    is_too_long plan.graph.dag plan.graph.order entries is.is_dag is.is_order has
    (same-too-long limits (bare_plan always_post plan.graph) table entries same (subst (λ (p : Plan). IsTooLong limits p table) is.made long))
stopped-rehearsal always_post files path outcomes limits plan table _ is (entries, has, same) running_had_no_memory = rehearsing_had_no_memory

pub rehearsal-stopped : {A : Type 0} (always_post : Bool) (files : Files) (path : List ℕ) (outcomes : Option (List ℕ)) (limits : Limits) (plan : Plan) (table : List Entry) (result : Result A RunFault)
    → IsPlanOf always_post files path plan → (entries : List Entry) × HasEntries outcomes entries × SameOutcomes table entries
    → IfErr result (IsTableRunFault limits plan table) → IfErr result (IsRehearsalFault always_post files path outcomes limits)
rehearsal-stopped always_post files path outcomes limits plan table (Ok answer) is by_text why = tt
rehearsal-stopped always_post files path outcomes limits plan table (Err fault) is by_text why = stopped-rehearsal always_post files path outcomes limits plan table fault is by_text why
