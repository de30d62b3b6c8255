-- What `run` printed of a run that has ended, by its journal.
use Rattle.std.specs.Prelude.{◌≡◌, ℕ, false, List, Option, Some, IsTrue}
use Rattle.run_plan.specs.Plan.{Plan}
use Rattle.node_machine.specs.declared.Record.{Record}
use Rattle.sched_core.specs.Run.{chronological, is_lawful, is_over, exit_status}
use Rattle.status_report.specs.Text.{run_text}
use Rattle.dag_main_check.specs.Warnings.{warning_lines}
use Rattle.dag_main_files.specs.Beside.{journal_name_of}
use Rattle.dag_main_files.specs.Opened.{Holding, IsReadAs}
use Rattle.dag_main_inspect.specs.Statused.{journal_bytes, records_in_bytes}
use Rattle.dag_main_inspect.specs.LastRound.{has_ended_by, IsOfLastRound}

-- The records of a journal that has these bytes are those of a run, and Finish is the newest; and this is what is printed of them: the status
-- text and the exit status.
pub record IsReport (plan : Plan) (bytes text : List ℕ) (status : ℕ) : Type 0 where
  pub past : List Record
  pub are_records : records_in_bytes plan bytes ≡ Some (chronological past)
  pub lawful : IsTrue (is_lawful plan past)
  pub over : IsTrue (is_over past)
  pub text_is : text ≡ run_text plan past status
  pub status_is : status ≡ exit_status plan past

-- they are those of a run, and Finish is not the newest
pub record HasNotEnded (plan : Plan) (bytes : List ℕ) : Type 0 where
  pub past : List Record
  pub are_records : records_in_bytes plan bytes ≡ Some (chronological past)
  pub lawful : IsTrue (is_lawful plan past)
  pub goes_on : is_over past ≡ false

-- that was printed of the last round of a path, with the warnings of its files
pub record IsReportSaid (text warnings : List ℕ) (status : ℕ) (plan : Plan) (journal : Option (List ℕ)) : Type 0 where
  pub report : IsReport plan (journal_bytes journal) text status
  pub warnings_are : warnings ≡ warning_lines plan.graph.dag.warnings

abbrev pub IsReported : Holding → (path text warnings : List ℕ) → (status : ℕ) → Type 0
IsReported may_hold path text warnings status = IsOfLastRound may_hold path (IsReportSaid text warnings status)

-- Why there is none: the last record of the journal is not Finish, or there is none to be read; or the run of the plan has not ended by it.
pub data IsNoReport (may_hold : Holding) (path : List ℕ) : Type 0 where
  no_end : (journal : Option (List ℕ)) → IsReadAs may_hold (journal_name_of path) journal → has_ended_by journal ≡ false → IsNoReport may_hold path
  unended : IsOfLastRound may_hold path (λ plan journal. HasNotEnded plan (journal_bytes journal)) → IsNoReport may_hold path
