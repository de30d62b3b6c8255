use Rattle.std.proofs.Common.{◌≡◌, ◌∙◌, ℕ, false, List, Option, ap, subst, sym, refl}
use Rattle.std.specs.Option.{option_map}
use Rattle.splices_flat.specs.Dag.{Dag}
use Rattle.splices_flat.specs.Opening.{Files}
use Rattle.dag_graph.specs.Graph.{Network}
use Rattle.run_plan.specs.Plan.{Plan}
use Rattle.dag_main_files.specs.Beside.{refusing_had_no_memory, refusing_unheld_had_no_memory}
use Rattle.dag_main_files.specs.Opened.{changing, fixed, HasBarePlan}
use Rattle.dag_main_files.proofs.OpenedFiles.{said-more, read-some, read-held, unreadable-some, unreadable-held}
use Rattle.dag_main_check.specs.Warnings.{warning_lines}
use Rattle.dag_main_check.specs.declared.fault.RunFault.TheVariants.{Memory}
use Rattle.dag_main_files.proofs.RunFaults.{by-fault}
use Rattle.run_times.specs.declared.form.Form.{Form}
use Rattle.run_times.specs.declared.runs.PhaseRun.{PhaseRun}
use Rattle.run_times.specs.Reading.{IsRunsOf}
use Rattle.run_times.specs.Critical.{IsCriticalPath}
use Rattle.run_times.specs.Rounds.{TwoLogs}
use Rattle.run_times.specs.Answered.{IsShownWith, IsShownOf, IsTimesBy, IsNoTimes, makes_no_graph, has_no_log, has_no_log_before}
use Rattle.run_times.proofs.here.times_here.Goals as goal

-- what is shown of logs, by what was read and handed on
shown-of : (logs read : TwoLogs) (graph seen : Network) (form : Form) (text : List ℕ) (runs timed drawn : List PhaseRun) (path given : List ℕ) → read ≡ logs → IsRunsOf read.last runs → seen ≡ graph
    → timed ≡ runs → drawn ≡ runs → given ≡ path → IsCriticalPath seen timed path → IsShownWith read graph drawn given form text → IsShownOf logs graph form text
shown-of logs read graph seen form text runs timed drawn path given logs_are runs_are graph_is timed_is drawn_is given_is is_path shown = record {
  runs = runs;
  runs_are = subst (λ (l : TwoLogs). IsRunsOf l.last runs) logs_are runs_are;
  path = path;
  is_path = subst (λ (r : List PhaseRun). IsCriticalPath graph r path) timed_is (subst (λ (n : Network). IsCriticalPath n timed path) graph_is is_path);
  shown = subst (λ (l : TwoLogs). IsShownWith l graph runs path form text) logs_are
      (subst (λ (r : List PhaseRun). IsShownWith read graph r path form text) drawn_is
      (subst (λ (p : List ℕ). IsShownWith read graph drawn p form text) given_is shown));
}

-- the logs that were read are those that are handed on
logs-are : (last seen : List ℕ) (before found : Option (List ℕ)) → seen ≡ last → found ≡ before
    → ◌≡◌ {A = TwoLogs} (record { last = seen; before = found }) (record { last = last; before = before })
logs-are last seen before found last_is before_is = λ i. record { last = last_is i; before = before_is i }

-- what is printed of the files of a plan
timed-by : (logs : TwoLogs) (path : List ℕ) (form : Form) (text warnings : List ℕ) (plan : Plan) → IsShownOf logs plan.graph form text → warnings ≡ warning_lines plan.graph.dag.warnings → (files : Files)
    (entries : List (List ℕ × List ℕ)) → HasBarePlan false path plan files entries → IsTimesBy logs path form text warnings 0 files entries
timed-by logs path form text warnings plan shown warned files entries planned = record {
  graph = plan.graph;
  is_graph = record { is_dag = planned.is_dag; acyclic = planned.acyclic };
  shown = shown;
  warnings_are = warned;
  status_is = refl;
}

pub returns-in_err-plan-clause-refused : goal.returns-in_err-plan-clause-refused
returns-in_err-plan-clause-refused g c =
    by-fault (IsNoTimes changing c.args.top.now c.args.form) c.in_err-plan.field-0.0 (makes_no_graph _ c.in_err-plan.ensures.refused)
    c.from_residual.result c.from_residual.ensures.1

pub returns-in_err-log-clause-refused : goal.returns-in_err-log-clause-refused
returns-in_err-log-clause-refused g c =
    by-fault (IsNoTimes changing c.args.top.now c.args.form) c.in_err-log.field-0.0 (has_no_log _ (unreadable-some _ _ c.in_err-log.ensures.refused))
    c.from_residual-in_err-log.result c.from_residual-in_err-log.ensures.1

pub returns-in_err-before-clause-refused : goal.returns-in_err-before-clause-refused
returns-in_err-before-clause-refused g c =
    by-fault (IsNoTimes changing c.args.top.now c.args.form) c.in_err-before.field-0.0 (has_no_log_before _ c.in_err-before.ensures.refused.0 c.in_err-before.ensures.refused.1)
    c.from_residual-in_err-before.result c.from_residual-in_err-before.ensures.1

pub returns-in_err-runs-clause-refused : goal.returns-in_err-runs-clause-refused
returns-in_err-runs-clause-refused g c =
    by-fault (IsNoTimes changing c.args.top.now c.args.form) Memory (has_no_log _ (unreadable-some _ _ refusing_had_no_memory)) c.from_residual-in_err-runs.result c.from_residual-in_err-runs.ensures.1

pub returns-in_err-path-clause-refused : goal.returns-in_err-path-clause-refused
returns-in_err-path-clause-refused g c =
    by-fault (IsNoTimes changing c.args.top.now c.args.form) Memory (has_no_log _ (unreadable-some _ _ refusing_had_no_memory)) c.from_residual-in_err-path.result c.from_residual-in_err-path.ensures.1

pub returns-in_err-limits-clause-refused : goal.returns-in_err-limits-clause-refused
returns-in_err-limits-clause-refused g c =
    by-fault (IsNoTimes changing c.args.top.now c.args.form) Memory (has_no_log _ (unreadable-some _ _ refusing_had_no_memory)) c.from_residual-in_err-limits.result c.from_residual-in_err-limits.ensures.1

pub returns-in_err-text_of-clause-refused : goal.returns-in_err-text_of-clause-refused
returns-in_err-text_of-clause-refused g c =
    by-fault (IsNoTimes changing c.args.top.now c.args.form) Memory (has_no_log _ (unreadable-some _ _ refusing_had_no_memory)) c.from_residual-in_err-text_of.result c.from_residual-in_err-text_of.ensures.1

pub returns-in_err-warning_text-clause-refused : goal.returns-in_err-warning_text-clause-refused
returns-in_err-warning_text-clause-refused g c =
    by-fault (IsNoTimes changing c.args.top.now c.args.form) Memory (has_no_log _ (unreadable-some _ _ refusing_had_no_memory)) c.from_residual-in_err-warning_text.result c.from_residual-in_err-warning_text.ensures.1

pub returns-clause-answered : goal.returns-clause-answered
returns-clause-answered g c =
    let before = option_map (λ b. b.items) c.in_ok-before.before in
    let logs : TwoLogs = record { last = c.in_ok-log.log.items; before = before } in
    let read = logs-are c.in_ok-log.log.items _ before _ c.as_slice.ensures.value c.as_deref.ensures.value in
    let shown = shown-of logs _ c.in_ok-plan.plan.graph _ c.args.form _ c.in_ok-runs.runs.items _ _ c.in_ok-path.path.items _ read c.in_ok-runs.ensures
    c.graph-graph.ensures.is c.deref.ensures.value c.deref-3.ensures.value c.deref-4.ensures.value c.in_ok-path.ensures c.in_ok-text_of.ensures in
    let warned = c.in_ok-warning_text.ensures ∙ ap warning_lines (c.warnings.ensures ∙ ap (λ (d : Dag). d.warnings) (c.flat.ensures ∙ ap (λ (n : Network). n.dag) c.graph-graph.ensures.is)) in
    record {
      logs = logs;
      last_is = read-some _ _;
      before_is = c.in_ok-before.ensures.before;
      of_files = said-more changing c.args.top.now _ _ (timed-by logs c.args.top.now c.args.form _ _ c.in_ok-plan.plan shown warned) c.in_ok-plan.ensures.plan;
    }

pub returns-clause-held : goal.returns-clause-held
returns-clause-held g c = λ honest.
    let before = option_map (λ b. b.items) c.in_ok-before.before in
    let logs : TwoLogs = record { last = c.in_ok-log.log.items; before = before } in
    let read = logs-are c.in_ok-log.log.items _ before _ c.as_slice.ensures.value c.as_deref.ensures.value in
    let shown = shown-of logs _ c.in_ok-plan.plan.graph _ c.args.form _ c.in_ok-runs.runs.items _ _ c.in_ok-path.path.items _ read c.in_ok-runs.ensures
    c.graph-graph.ensures.is c.deref.ensures.value c.deref-3.ensures.value c.deref-4.ensures.value c.in_ok-path.ensures c.in_ok-text_of.ensures in
    let warned = c.in_ok-warning_text.ensures ∙ ap warning_lines (c.warnings.ensures ∙ ap (λ (d : Dag). d.warnings) (c.flat.ensures ∙ ap (λ (n : Network). n.dag) c.graph-graph.ensures.is)) in
    record {
      logs = logs;
      last_is = read-held _ _ _ (sym (c.in_ok-log.ensures.held honest));
      before_is = c.in_ok-before.ensures.held honest;
      of_files =
          said-more (fixed (g.F.Folder.holds c.args.folder.now)) c.args.top.now _ _ (timed-by logs c.args.top.now c.args.form _ _ c.in_ok-plan.plan shown warned)
          (c.in_ok-plan.ensures.held honest);
    }

pub returns-in_err-plan-clause-refused_held : goal.returns-in_err-plan-clause-refused_held
returns-in_err-plan-clause-refused_held g c = λ honest.
    by-fault (IsNoTimes (fixed (g.F.Folder.holds c.args.folder.now)) c.args.top.now c.args.form) c.in_err-plan.field-0.0 (makes_no_graph _ (c.in_err-plan.ensures.refused_held honest))
    c.from_residual.result c.from_residual.ensures.1

pub returns-in_err-log-clause-refused_held : goal.returns-in_err-log-clause-refused_held
returns-in_err-log-clause-refused_held g c = λ honest.
    by-fault (IsNoTimes (fixed (g.F.Folder.holds c.args.folder.now)) c.args.top.now c.args.form) c.in_err-log.field-0.0 (has_no_log _ (unreadable-held _ _ _ (c.in_err-log.ensures.unheld honest)))
    c.from_residual-in_err-log.result c.from_residual-in_err-log.ensures.1

pub returns-in_err-before-clause-refused_held : goal.returns-in_err-before-clause-refused_held
returns-in_err-before-clause-refused_held g c = λ honest.
    by-fault (IsNoTimes (fixed (g.F.Folder.holds c.args.folder.now)) c.args.top.now c.args.form) c.in_err-before.field-0.0
    (has_no_log_before _ (c.in_err-before.ensures.unheld honest).0 (c.in_err-before.ensures.unheld honest).1) c.from_residual-in_err-before.result c.from_residual-in_err-before.ensures.1

pub returns-in_err-runs-clause-refused_held : goal.returns-in_err-runs-clause-refused_held
returns-in_err-runs-clause-refused_held g c = λ honest.
    by-fault (IsNoTimes (fixed (g.F.Folder.holds c.args.folder.now)) c.args.top.now c.args.form) Memory (has_no_log _ (unreadable-held _ _ _ refusing_unheld_had_no_memory)) c.from_residual-in_err-runs.result c.from_residual-in_err-runs.ensures.1

pub returns-in_err-path-clause-refused_held : goal.returns-in_err-path-clause-refused_held
returns-in_err-path-clause-refused_held g c = λ honest.
    by-fault (IsNoTimes (fixed (g.F.Folder.holds c.args.folder.now)) c.args.top.now c.args.form) Memory (has_no_log _ (unreadable-held _ _ _ refusing_unheld_had_no_memory)) c.from_residual-in_err-path.result c.from_residual-in_err-path.ensures.1

pub returns-in_err-limits-clause-refused_held : goal.returns-in_err-limits-clause-refused_held
returns-in_err-limits-clause-refused_held g c = λ honest.
    by-fault (IsNoTimes (fixed (g.F.Folder.holds c.args.folder.now)) c.args.top.now c.args.form) Memory (has_no_log _ (unreadable-held _ _ _ refusing_unheld_had_no_memory)) c.from_residual-in_err-limits.result c.from_residual-in_err-limits.ensures.1

pub returns-in_err-text_of-clause-refused_held : goal.returns-in_err-text_of-clause-refused_held
returns-in_err-text_of-clause-refused_held g c = λ honest.
    by-fault (IsNoTimes (fixed (g.F.Folder.holds c.args.folder.now)) c.args.top.now c.args.form) Memory (has_no_log _ (unreadable-held _ _ _ refusing_unheld_had_no_memory)) c.from_residual-in_err-text_of.result c.from_residual-in_err-text_of.ensures.1

pub returns-in_err-warning_text-clause-refused_held : goal.returns-in_err-warning_text-clause-refused_held
returns-in_err-warning_text-clause-refused_held g c = λ honest.
    by-fault (IsNoTimes (fixed (g.F.Folder.holds c.args.folder.now)) c.args.top.now c.args.form) Memory (has_no_log _ (unreadable-held _ _ _ refusing_unheld_had_no_memory)) c.from_residual-in_err-warning_text.result c.from_residual-in_err-warning_text.ensures.1
