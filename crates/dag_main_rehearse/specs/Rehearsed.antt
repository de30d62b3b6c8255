-- What a rehearsal answers, by the bytes that it is given.
use Rattle.std.specs.Prelude.{◌≡◌, ℕ, Bool, true, List, [], Option, Some, None, is_some, Ok, IsFalse, if◌then◌else◌}
use Rattle.std.specs.Str.Lines.{lines}
use Rattle.node_machine.specs.OutcomeTable.{Entry}
use Rattle.node_machine.specs.OutcomesFile as outcomes_file
use Rattle.splices_flat.specs.Dag.{Dag}
use Rattle.splices_flat.specs.Opening.{Files}
use Rattle.splices_flat.specs.Opened.{dag_at}
use Rattle.dag_graph.specs.Graph.{IsAcyclic, IsOrderOf}
use Rattle.run_plan.specs.Plan.{Plan, count_of, all_below}
use Rattle.run_plan.specs.Submitted.{bare_plan}
use Rattle.node_machine.specs.declared.Record.{Record}
use Rattle.sched_core.specs.Run.{is_aborted, exit_status}
use Rattle.throttles.specs.declared.Limits.{Limits}
use Rattle.sched_core.specs.Fate.{Fate, AreFates, final_fate, is_done_state}
use Rattle.dag_main_check.specs.Planned.{IsGraphFault}
use Rattle.dag_main_rehearse.specs.Refusals.{IsTableFault}
use Rattle.fate_audit.specs.Fates.{table_by}
use Rattle.dag_main_rehearse.specs.Rehearsal.{IsRehearsed}
use Rattle.dag_main_check.specs.Warnings.{warning_lines}
use Rattle.dag_main_rehearse.specs.Report.{report_of, fated_report}
use Rattle.dag_main_check.specs.declared.fault.RunFault.{RunFault}
use Rattle.dag_main_check.specs.declared.fault.RunFault.TheVariants.{InManager, Memory}
use Rattle.dag_main_rehearse.specs.TooLong.{no_slot, IsTooLong}

-- the plan of a DAG, by an order of its nodes, with no submit file read; the flag says whether POST runs after a failed PRE
abbrev pub bare_plan_by : Bool → Dag → List ℕ → Plan
bare_plan_by always_post dag order = bare_plan always_post (record { dag = dag; order = order })

-- the entries that a text of outcomes says; without a text there are none
abbrev pub HasEntries : Option (List ℕ) → List Entry → Type 0
HasEntries None entries = entries ≡ []
HasEntries (Some text) entries = outcomes_file.SayEntries 1 (lines text) entries

-- What a rehearsal answers: the report of a run of the DAG of the file with this path under the limits, at the outcomes of the
-- entries, with the exit status and the warnings. No node of the DAG is its own ancestor, since an order has parents before
-- their children.
pub record IsRehearsalOf (always_post : Bool) (files : Files) (path : List ℕ) (outcomes : Option (List ℕ)) (limits : Limits) (text warnings : List ℕ) (status : ℕ) : Type 0 where
  pub dag : Dag
  pub order : List ℕ
  pub entries : List Entry
  pub past : List Record
  pub is_dag : dag_at files path ≡ Ok dag
  pub is_order : IsOrderOf dag order
  pub has_entries : HasEntries outcomes entries
  pub run : IsRehearsed limits (bare_plan_by always_post dag order) entries past
  pub text_is : text ≡ report_of (bare_plan_by always_post dag order) past status
  pub status_is : status ≡ exit_status (bare_plan_by always_post dag order) past
  pub warnings_are : warnings ≡ warning_lines dag.warnings

-- its run meets no abort
abbrev pub MeetsNoAbort : (always_post : Bool) (files : Files) (path : List ℕ) (outcomes : Option (List ℕ)) (limits : Limits) (text warnings : List ℕ) (status : ℕ)
    → IsRehearsalOf always_post files path outcomes limits text warnings status → Type 0
MeetsNoAbort always_post files path outcomes limits text warnings status r = IsFalse (is_aborted (bare_plan_by always_post r.dag r.order) r.past)

-- the exit status of a run that shows these fates
abbrev pub fated_status : Plan → (ℕ → Fate) → ℕ
fated_status plan fates =
    if is_some plan.final_node then (if is_done_state (fates (count_of plan)).state then 0 else 1)
    else if all_below (λ node. is_done_state (fates node).state) (count_of plan) then 0 else 1

-- The report of the fates: those that the recursion over parents reads from the entries, and FINAL's story.
pub record IsFatedReport (always_post : Bool) (files : Files) (path : List ℕ) (outcomes : Option (List ℕ)) (text : List ℕ) (status : ℕ) : Type 0 where
  pub dag : Dag
  pub order : List ℕ
  pub entries : List Entry
  pub fates : ℕ → Fate
  pub is_dag : dag_at files path ≡ Ok dag
  pub is_order : IsOrderOf dag order
  pub has_entries : HasEntries outcomes entries
  pub are_fates : AreFates (bare_plan_by always_post dag order) (table_by (bare_plan_by always_post dag order) entries) fates
  pub final_fate : is_some dag.final_node ≡ true
      → fates (count_of (bare_plan_by always_post dag order)) ≡ final_fate (bare_plan_by always_post dag order) (table_by (bare_plan_by always_post dag order) entries)
  pub text_is : text ≡ fated_report (bare_plan_by always_post dag order) fates status
  pub status_is : status ≡ fated_status (bare_plan_by always_post dag order) fates

-- Why a rehearsal is refused: the files make no graph; the text of outcomes is no table; the run of the DAG under the limits, at the outcomes
-- of the entries, has more records than its journal has slots; or memory ran out.
pub data IsRehearsalFault (always_post : Bool) (files : Files) (path : List ℕ) (outcomes : Option (List ℕ)) (limits : Limits) : RunFault → Type 0 where
  has_no_graph : (fault : RunFault) → IsGraphFault files path fault → IsRehearsalFault always_post files path outcomes limits fault
  has_no_table : (dag : Dag) (fault : RunFault) → dag_at files path ≡ Ok dag → IsAcyclic dag.edges → IsTableFault outcomes fault →
      IsRehearsalFault always_post files path outcomes limits fault
  is_too_long : (dag : Dag) (order : List ℕ) (entries : List Entry) → dag_at files path ≡ Ok dag → IsOrderOf dag order → HasEntries outcomes entries →
      IsTooLong limits (bare_plan_by always_post dag order) entries → IsRehearsalFault always_post files path outcomes limits (InManager no_slot)
  rehearsing_had_no_memory : IsRehearsalFault always_post files path outcomes limits Memory
