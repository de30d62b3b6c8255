-- One report for each set of files and table.
use Rattle.std.proofs.Common.{◌≡◌, ℕ, zero, suc, ◌+◌, ◌<◌, Bool, true, false, not, ◌&&◌, ◌||◌, is_some, List, [], ◌∷◌, ◌++◌, map, Option, Some, None, Result, Ok, Err, refl, sym, ap, ◌∙◌, subst, arith, if◌then◌else◌}
use Rattle.std.specs.List.{range_with_len}
use Rattle.std.specs.Str.Lines.{lines}
use Rattle.node_machine.specs.OutcomeTable.{Entry}
use Rattle.node_machine.proofs.OutcomeLines as outcome_lines
use Rattle.throttles.specs.declared.Limits.{Limits}
use Rattle.splices_flat.specs.Dag.{Dag}
use Rattle.splices_flat.specs.Opening.{Files}
use Rattle.splices_flat.specs.declared.fault.DagFault.{DagFault}
use Rattle.dag_graph.specs.Graph.{rank_in}
use Rattle.run_plan.specs.Plan.{Plan, node_at, count_of, all_below}
use Rattle.run_plan.proofs.PlanFacts.{made-ranked}
use Rattle.std.specs.Option.{option_map}
use Rattle.std.proofs.lemmas.Bool.{false≢true}
use Rattle.splices_flat.specs.declared.flat.FlatNode.{FlatNode}
use Rattle.run_plan.specs.Specs.{final_spec}
use Rattle.rescue_file.specs.Written.{ordinary_names, rescue_text_of}
use Rattle.sched_core.specs.Fate.{Fate, AreFates, final_fate, shown, is_done_state}
use Rattle.sched_core.proofs.LivesLemmas.{table-fates, table-final}
use Rattle.sched_core.proofs.Finished.{lawful_part}
use Rattle.sched_core.proofs.Aborts.{has_abort_fate, abort_free-fates, abort_free-shown}
use Rattle.dag_main_rehearse.proofs.CalmReports.{report-is, status-is}
use Rattle.sched_core.proofs.Matching.{fates-unique}
use Rattle.sched_core.proofs.Sweeps.{all_below-same}
use Rattle.fate_audit.specs.Fates.{table_by}
use Rattle.run_plan.specs.Submitted.{sources_of}
use Rattle.run_plan.specs.Digest.{digest_of}
use Rattle.status_report.specs.Text.{fate_line, fate_lines, reported, result_line}
use Rattle.status_report.proofs.Finished.{same-lines}
use Rattle.dag_main_check.specs.Warnings.{warning_lines}
use Rattle.dag_main_rehearse.specs.Report.{fated_rescue_text, fates_need_rescue, fated_report}
use Rattle.dag_main_rehearse.specs.Rehearsed.{bare_plan_by, HasEntries, fated_status, IsRehearsalOf, MeetsNoAbort, IsFatedReport}

abbrev dag_or : Dag → Result Dag DagFault → Dag
dag_or d (Ok dag) = dag
dag_or d (Err fault) = d

one-list : (outcomes : Option (List ℕ)) (entries other : List Entry) → HasEntries outcomes entries → HasEntries outcomes other → entries ≡ other
one-list None entries other e e' = e ∙ sym e'
one-list (Some text) entries other says says' =
    outcome_lines.good_is entries other (sym (outcome_lines.lines_again 1 (lines text) entries says) ∙ outcome_lines.lines_again 1 (lines text) other says')

-- the same fates give the same marks
same-marks : (fates other : ℕ → Fate) (number n : ℕ) → ((node : ℕ) → node < number + n → fates node ≡ other node)
    → map (λ node. is_done_state (fates node).state) (range_with_len number n) ≡ map (λ node. is_done_state (other node).state) (range_with_len number n)
same-marks fates other number zero same = refl
same-marks fates other number (suc n) same =
    λ j. is_done_state (same number (omega arith) j).state ∷ same-marks fates other (number + 1) n (λ node lt. same node (omega arith)) j

-- a run without abort reports the fates
pub abort_free-report : (always_post : Bool) (files : Files) (path : List ℕ) (outcomes : Option (List ℕ)) (limits : Limits) (text warnings : List ℕ) (status : ℕ)
    (r : IsRehearsalOf always_post files path outcomes limits text warnings status) → MeetsNoAbort always_post files path outcomes limits text warnings status r → IsFatedReport always_post files path outcomes text status
abort_free-report always_post files path outcomes limits text warnings status r abort_free =
    let plan = bare_plan_by always_post r.dag r.order in
    let table = table_by plan r.entries in
    record {
      dag = r.dag;
      order = r.order;
      entries = r.entries;
      fates = shown plan r.past;
      is_dag = r.is_dag;
      is_order = r.is_order;
      has_entries = r.has_entries;
      are_fates = table-fates plan table r.past (record { finished = r.run.finished; abort_free = abort_free; outcomes = r.run.outcomes });
      final_fate = λ some. table-final plan table r.past r.run.finished r.run.outcomes (some-final (r.dag.final_node) some);
      text_is = r.text_is ∙ report-is plan r.past r.run.finished abort_free status;
      status_is = r.status_is ∙ status-is plan r.past r.run.finished abort_free;
    }
  where
    some-final : (final_node : Option FlatNode) → is_some final_node ≡ true → is_some (option_map (final_spec (sources_of always_post None [])) final_node) ≡ true
    some-final None some = some
    some-final (Some node) some = refl

module _ (always_post : Bool) (files : Files) (path : List ℕ) (outcomes : Option (List ℕ)) (text other : List ℕ) (status verdict : ℕ)
    (a : IsFatedReport always_post files path outcomes text status) (b : IsFatedReport always_post files path outcomes other verdict) where
  same-dag : b.dag ≡ a.dag
  same-dag = ap (dag_or a.dag) (sym b.is_dag ∙ a.is_dag)

  -- the two rehearse one plan, whatever the order
  abbrev plan : Plan
  plan = bare_plan_by always_post a.dag a.order

  same-entries : b.entries ≡ a.entries
  same-entries = one-list outcomes b.entries a.entries b.has_entries a.has_entries

  other-fates : AreFates plan (table_by plan a.entries) b.fates
  other-fates =
      subst (λ (d : Dag). AreFates (bare_plan_by always_post d a.order) (table_by (bare_plan_by always_post d a.order) a.entries) b.fates) same-dag
      (subst (λ (es : List Entry). AreFates (bare_plan_by always_post b.dag a.order) (table_by (bare_plan_by always_post b.dag a.order) es) b.fates) same-entries b.are_fates)

  other-final : is_some a.dag.final_node ≡ true → b.fates (count_of plan) ≡ final_fate plan (table_by plan a.entries)
  other-final =
      subst (λ (d : Dag). is_some d.final_node ≡ true → b.fates (count_of (bare_plan_by always_post d a.order)) ≡ final_fate (bare_plan_by always_post d a.order) (table_by (bare_plan_by always_post d a.order) a.entries)) same-dag
      (subst (λ (es : List Entry). is_some b.dag.final_node ≡ true → b.fates (count_of (bare_plan_by always_post b.dag a.order)) ≡ final_fate (bare_plan_by always_post b.dag a.order) (table_by (bare_plan_by always_post b.dag a.order) es)) same-entries b.final_fate)

  same-fates : (node : ℕ) → node < count_of plan → a.fates node ≡ b.fates node
  same-fates node lt =
      fates-unique plan (table_by plan a.entries) (rank_in a.order) (made-ranked (record { dag = a.dag; order = a.order }) (sources_of always_post None []) (digest_of a.dag.top [] None) a.is_order) a.fates b.fates a.are_fates other-fates node lt

  same-final : is_some a.dag.final_node ≡ true → a.fates (count_of plan) ≡ b.fates (count_of plan)
  same-final some = a.final_fate some ∙ sym (other-final some)

  none-final : (o : Option FlatNode) → is_some o ≡ false → is_some (option_map (final_spec (sources_of always_post None [])) o) ≡ false
  none-final None e = refl
  none-final (Some node) e = absurd (false≢true (sym e))

  some-final : (o : Option FlatNode) → is_some o ≡ true → is_some (option_map (final_spec (sources_of always_post None [])) o) ≡ true
  some-final None e = e
  some-final (Some node) e = refl

  ordinary-same : all_below (λ node. is_done_state (a.fates node).state) (count_of plan) ≡ all_below (λ node. is_done_state (b.fates node).state) (count_of plan)
  ordinary-same = all_below-same (λ node. is_done_state (a.fates node).state) (λ node. is_done_state (b.fates node).state) (count_of plan)
      (λ node lt. ap (λ (f : Fate). is_done_state f.state) (same-fates node lt))

  same-status : fated_status plan a.fates ≡ fated_status plan b.fates
  same-status = go (is_some a.dag.final_node) refl
    where
      go : (x : Bool) → is_some a.dag.final_node ≡ x → fated_status plan a.fates ≡ fated_status plan b.fates
      go true e =
          (λ j. if some-final a.dag.final_node e j then (if is_done_state (a.fates (count_of plan)).state then 0 else 1) else if all_below (λ node. is_done_state (a.fates node).state) (count_of plan) then 0 else 1)
          ∙ (λ j. if is_done_state (same-final e j).state then 0 else 1)
          ∙ (λ j. if sym (some-final a.dag.final_node e) j then (if is_done_state (b.fates (count_of plan)).state then 0 else 1) else if all_below (λ node. is_done_state (b.fates node).state) (count_of plan) then 0 else 1)
      go false e =
          (λ j. if none-final a.dag.final_node e j then (if is_done_state (a.fates (count_of plan)).state then 0 else 1) else if all_below (λ node. is_done_state (a.fates node).state) (count_of plan) then 0 else 1)
          ∙ (λ j. if ordinary-same j then 0 else 1)
          ∙ (λ j. if sym (none-final a.dag.final_node e) j then (if is_done_state (b.fates (count_of plan)).state then 0 else 1) else if all_below (λ node. is_done_state (b.fates node).state) (count_of plan) then 0 else 1)

  same-need : fates_need_rescue plan a.fates ≡ fates_need_rescue plan b.fates
  same-need = go (is_some a.dag.final_node) refl
    where
      go : (x : Bool) → is_some a.dag.final_node ≡ x → fates_need_rescue plan a.fates ≡ fates_need_rescue plan b.fates
      go true e = λ j. not (ordinary-same j) || (is_some plan.final_node && not (is_done_state (same-final e j).state))
      go false e =
          (λ j. not (ordinary-same j) || (none-final a.dag.final_node e j && not (is_done_state (a.fates (count_of plan)).state)))
          ∙ (λ j. not (all_below (λ node. is_done_state (b.fates node).state) (count_of plan)) || (sym (none-final a.dag.final_node e) j && not (is_done_state (b.fates (count_of plan)).state)))

  all-same : fate_lines plan a.fates (reported plan) ≡ fate_lines plan b.fates (reported plan)
  all-same = go (is_some a.dag.final_node) refl
    where
      go : (x : Bool) → is_some a.dag.final_node ≡ x → fate_lines plan a.fates (reported plan) ≡ fate_lines plan b.fates (reported plan)
      go true e =
          (λ j. fate_lines plan a.fates (if some-final a.dag.final_node e j then suc (count_of plan) else count_of plan))
          ∙ (λ j. same-lines plan a.fates b.fates (count_of plan) same-fates j ++ fate_line (node_at plan (count_of plan)).name (same-final e j))
          ∙ (λ j. fate_lines plan b.fates (if sym (some-final a.dag.final_node e) j then suc (count_of plan) else count_of plan))
      go false e =
          (λ j. fate_lines plan a.fates (if none-final a.dag.final_node e j then suc (count_of plan) else count_of plan))
          ∙ same-lines plan a.fates b.fates (count_of plan) same-fates
          ∙ (λ j. fate_lines plan b.fates (if sym (none-final a.dag.final_node e) j then suc (count_of plan) else count_of plan))

  same-text : fated_rescue_text plan a.fates ≡ fated_rescue_text plan b.fates
  same-text = ap (λ (marks : List Bool). rescue_text_of (ordinary_names plan.graph.dag) marks) (same-marks a.fates b.fates 0 (count_of plan) (λ node lt. same-fates node (omega arith)))

  pub one-status : status ≡ verdict
  one-status = a.status_is ∙ same-status ∙ ap (λ (d : Dag). fated_status (bare_plan_by always_post d a.order) b.fates) (sym same-dag) ∙ sym b.status_is

  pub one-text : text ≡ other
  one-text =
      a.text_is
      ∙ (λ j. all-same j ++ (result_line (one-status j) ++ (if same-need j then same-text j else [])))
      ∙ ap (λ (d : Dag). fated_report (bare_plan_by always_post d a.order) b.fates verdict) (sym same-dag) ∙ sym b.text_is

pub one-warnings : (always_post : Bool) (files : Files) (path : List ℕ) (outcomes : Option (List ℕ)) (limits bounds : Limits) (text other warnings notes : List ℕ) (status verdict : ℕ)
    → IsRehearsalOf always_post files path outcomes limits text warnings status → IsRehearsalOf always_post files path outcomes bounds other notes verdict → warnings ≡ notes
one-warnings always_post files path outcomes limits bounds text other warnings notes status verdict a b =
    a.warnings_are ∙ ap (λ (d : Dag). warning_lines d.warnings) (sym (ap (dag_or a.dag) (sym b.is_dag ∙ a.is_dag))) ∙ sym b.warnings_are

-- where one run meets no abort, neither does the other
pub one-abort_free : (always_post : Bool) (files : Files) (path : List ℕ) (outcomes : Option (List ℕ)) (limits bounds : Limits) (text other warnings notes : List ℕ) (status verdict : ℕ)
    (a : IsRehearsalOf always_post files path outcomes limits text warnings status) (b : IsRehearsalOf always_post files path outcomes bounds other notes verdict)
    → MeetsNoAbort always_post files path outcomes limits text warnings status a → MeetsNoAbort always_post files path outcomes bounds other notes verdict b
one-abort_free always_post files path outcomes limits bounds text other warnings notes status verdict a b abort_free =
    abort_free-fates (bare_plan_by always_post b.dag b.order) (table_by (bare_plan_by always_post b.dag b.order) b.entries) (rank_in b.order)
    (made-ranked (record { dag = b.dag; order = b.order }) (sources_of always_post None []) (digest_of b.dag.top [] None) b.is_order)
    (shown (bare_plan_by always_post a.dag a.order) a.past) fates-too abort_free-too b.past (lawful_part (bare_plan_by always_post b.dag b.order) b.past b.run.finished) b.run.outcomes
  where
    same : a.dag ≡ b.dag
    same = ap (dag_or b.dag) (sym a.is_dag ∙ b.is_dag)

    entries : a.entries ≡ b.entries
    entries = one-list outcomes a.entries b.entries a.has_entries b.has_entries

    fates : AreFates (bare_plan_by always_post a.dag a.order) (table_by (bare_plan_by always_post a.dag a.order) a.entries) (shown (bare_plan_by always_post a.dag a.order) a.past)
    fates = table-fates (bare_plan_by always_post a.dag a.order) (table_by (bare_plan_by always_post a.dag a.order) a.entries) a.past (record { finished = a.run.finished; abort_free = abort_free; outcomes = a.run.outcomes })

    fates-too : AreFates (bare_plan_by always_post b.dag b.order) (table_by (bare_plan_by always_post b.dag b.order) b.entries) (shown (bare_plan_by always_post a.dag a.order) a.past)
    fates-too =
        subst (λ (d : Dag). AreFates (bare_plan_by always_post d b.order) (table_by (bare_plan_by always_post d b.order) b.entries) (shown (bare_plan_by always_post a.dag a.order) a.past)) same
        (subst (λ (es : List Entry). AreFates (bare_plan_by always_post a.dag b.order) (table_by (bare_plan_by always_post a.dag b.order) es) (shown (bare_plan_by always_post a.dag a.order) a.past)) entries fates)

    abort_free-too : (node : ℕ) → node < count_of (bare_plan_by always_post b.dag b.order) → has_abort_fate (bare_plan_by always_post b.dag b.order) (shown (bare_plan_by always_post a.dag a.order) a.past) node ≡ false
    abort_free-too =
        subst (λ (d : Dag). (node : ℕ) → node < count_of (bare_plan_by always_post d b.order) → has_abort_fate (bare_plan_by always_post d b.order) (shown (bare_plan_by always_post a.dag a.order) a.past) node ≡ false) same
        (abort_free-shown (bare_plan_by always_post a.dag a.order) a.past abort_free)
