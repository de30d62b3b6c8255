-- What `report` answers.
use Rattle.std.specs.Prelude.{◌≡◌, ◌&&◌, not, ℕ, Bool, List, Option, Some, None, is_some, if◌then◌else◌}
use Rattle.node_machine.specs.declared.Record.{Record}
use Rattle.run_plan.specs.Plan.{Plan}
use Rattle.hex.specs.Hex.{encode_lower}
use Rattle.sched_core.specs.Run.{is_aborted, is_over}
use Rattle.dag_main_check.specs.Warnings.{warning_lines}
use Rattle.dag_main_files.specs.Opened.{Holding}
use Rattle.dag_main_inspect.specs.LastRound.{IsOfLastRound}
use Rattle.dag_main_inspect.specs.Asked.{IsOfRecords}
use Rattle.failure_report.specs.declared.why.Grouping.TheVariants.{ByCause}
use Rattle.failure_report.specs.Grouped.{HasAllBy}
use Rattle.report_page.specs.declared.values.Page.{Page}
use Rattle.report_page.specs.Pages.{IsPageText}
use Rattle.run_times.specs.declared.runs.PhaseRun.{PhaseRun}
use Rattle.report_answers.specs.Rows.{AreRows, round_state_of}
use Rattle.report_answers.specs.Limits.{AreLimitRows}

-- `audit` confirms a round that has ended where it was not aborted: its journal is that of a finished run, and each node came to its fate.
abbrev pub confirmed_by : Plan → List Record → Option Bool
confirmed_by plan past = if is_over past then Some (not (is_aborted plan past)) else None

-- A page is that of a run of the DAG file of a path: it has the path, the version, how the round is, a row for each node, how full limits were by some phases,
-- what `why` reports of all nodes in error, the warnings of the files, their digest, and where it has ended whether `audit` confirms it. It loads itself anew where that is asked for and the
-- round has not ended.
pub record IsPageOfRun (plan : Plan) (past : List Record) (path version : List ℕ) (begun reloads : Bool) (page : Page) : Type 0 where
  pub path_is : page.path.now ≡ path
  pub version_is : page.version.now ≡ version
  pub at_work : Bool
  pub round_is : page.round ≡ round_state_of plan past begun at_work
  pub rows : AreRows plan past page.rows.now
  pub runs : List PhaseRun
  pub limits : AreLimitRows plan.graph runs page.limits.now
  pub why : HasAllBy ByCause plan past page.why.now
  pub warnings_are : page.warnings.now ≡ warning_lines plan.graph.dag.warnings
  pub reloads_is : page.reloads ≡ (reloads && not (is_over past))
  pub digest_is : page.digest.now ≡ encode_lower plan.digest
  pub confirmed_is : page.confirmed ≡ confirmed_by plan past

-- The answer: the text of such a page, the warnings of the files, and status 0.
pub record IsPageAnswer (plan : Plan) (past : List Record) (path version : List ℕ) (begun reloads : Bool) (text warnings : List ℕ) (status : ℕ) : Type 0 where
  pub page : Page
  pub of_run : IsPageOfRun plan past path version begun reloads page
  pub text_is : IsPageText page text
  pub warnings_are : warnings ≡ warning_lines plan.graph.dag.warnings
  pub status_is : status ≡ 0

-- That is the answer of the last round of a path: of its plan and the records of its journal.
abbrev pub IsReportPage : Holding → (path version : List ℕ) → (reloads : Bool) → (text warnings : List ℕ) → (status : ℕ) → Type 0
IsReportPage may_hold path version reloads text warnings status =
    IsOfLastRound may_hold path (λ plan journal. IsOfRecords plan journal (λ past. IsPageAnswer plan past path version (is_some journal) reloads text warnings status))
