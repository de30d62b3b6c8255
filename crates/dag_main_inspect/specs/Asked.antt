-- What is answered of the last round of a DAG file.
use Rattle.std.specs.Prelude.{◌≡◌, ℕ, true, List, Option, Some, None, is_some, IsTrue}
use Rattle.node_machine.specs.declared.Record.{Record}
use Rattle.sched_core.specs.Run.{chronological, is_lawful}
use Rattle.run_plan.specs.Plan.{Plan}
use Rattle.dag_main_check.specs.Warnings.{warning_lines}
use Rattle.dag_main_check.specs.declared.fault.RunFault.{RunFault}
use Rattle.dag_main_check.specs.declared.fault.RunFault.TheVariants.{Memory}
use Rattle.dag_main_files.specs.Beside.{journal_name_of}
use Rattle.dag_main_files.specs.Opened.{Holding, IsReadAs, IsOfFiles, IsRefusedFor, HasNoGraph}
use Rattle.dag_main_inspect.specs.Statused.{journal_bytes, records_in_bytes, form_text, IsStatusBy, IsRecordsFault}
use Rattle.dag_main_inspect.specs.Audited.{audit_form_text, IsAuditText}
use Rattle.dag_main_inspect.specs.Drawn.{IsPicture, IsBareDrawn, IsJournalDrawnFault}
use Rattle.dag_main_inspect.specs.LastRound.{IsNoLastRound, IsOfLastRound, IsRefusedOfLastRound}
use Rattle.dag_main_inspect.specs.declared.graphs.Shape.{Shape}
use Rattle.dag_main_inspect.specs.declared.statuses.Form.{Form}
use Rattle.dag_main_inspect.specs.declared.by_journal.Question.{Question}
use Rattle.dag_main_inspect.specs.declared.by_journal.Question.TheVariants.{Status, Audit, Graph}

-- `status`: where each node is, by the records of the journal
pub record IsStatusSaid (form : Form) (path text warnings : List ℕ) (status : ℕ) (plan : Plan) (journal : Option (List ℕ)) : Type 0 where
  pub text_is : IsStatusBy (form_text form path) plan (journal_bytes journal) text status
  pub warnings_are : warnings ≡ warning_lines plan.graph.dag.warnings

-- `audit`: what the nodes came to, where the journal is that of a finished run
pub record IsAuditSaid (form : Form) (path text warnings : List ℕ) (status : ℕ) (plan : Plan) (journal : Option (List ℕ)) : Type 0 where
  pub text_is : IsAuditText (audit_form_text form path) plan (journal_bytes journal) text status
  pub warnings_are : warnings ≡ warning_lines plan.graph.dag.warnings

-- `graph`, where there is a journal: a picture, with where the nodes are
pub record IsPictureSaid (shape : Shape) (text warnings : List ℕ) (status : ℕ) (plan : Plan) (journal : Option (List ℕ)) : Type 0 where
  pub is_there : is_some journal ≡ true
  pub text_is : IsPicture shape plan (journal_bytes journal) text
  pub warnings_are : warnings ≡ warning_lines plan.graph.dag.warnings
  pub status_is : status ≡ 0

-- What `graph` answers: without a journal, a picture of the DAG files alone.
pub data IsDrawn (may_hold : Holding) (shape : Shape) (path text warnings : List ℕ) (status : ℕ) : Type 0 where
  of_files_alone : IsReadAs may_hold (journal_name_of path) None → IsOfFiles may_hold path (λ files entries. IsBareDrawn shape files path text warnings status) →
      IsDrawn may_hold shape path text warnings status
  by_journal : IsOfLastRound may_hold path (IsPictureSaid shape text warnings status) → IsDrawn may_hold shape path text warnings status

-- Why it is refused: it is not known which round is the last one; there is no journal, and the DAG files make no graph; or, of a journal, there is no plan, or it is not drawn.
pub data IsNotDrawn (may_hold : Holding) (path : List ℕ) : RunFault → Type 0 where
  no_round_to_draw : (fault : RunFault) → IsNoLastRound may_hold path fault → IsNotDrawn may_hold path fault
  no_graph_alone : (fault : RunFault) → IsReadAs may_hold (journal_name_of path) None → IsRefusedFor may_hold path (HasNoGraph path) fault → IsNotDrawn may_hold path fault
  not_by_journal : (fault : RunFault) → IsRefusedOfLastRound may_hold path (λ plan journal. IsJournalDrawnFault plan (journal_bytes journal)) fault → IsNotDrawn may_hold path fault

-- This is the answer to a question about the last round of a path.
abbrev pub IsAnswer : Holding → Question → (path text warnings : List ℕ) → (status : ℕ) → Type 0
IsAnswer may_hold (Status form) path text warnings status = IsOfLastRound may_hold path (IsStatusSaid form path text warnings status)
IsAnswer may_hold (Audit form) path text warnings status = IsOfLastRound may_hold path (IsAuditSaid form path text warnings status)
IsAnswer may_hold (Graph shape) path text warnings status = IsDrawn may_hold shape path text warnings status

-- Why a journal's round has no records: they are no journal of its plan, or one may not follow those before it; or memory ran out.
abbrev pub TellsOfNoRun : Plan → Option (List ℕ) → RunFault → Type 0
TellsOfNoRun plan journal fault = IsRecordsFault plan (journal_bytes journal) fault

-- Why there is no answer: the round was not opened; or, for `status`, it has no records. A journal is no cause for `audit`, which says what is wrong with it.
abbrev pub IsNotAnswered : Holding → Question → (path : List ℕ) → RunFault → Type 0
IsNotAnswered may_hold (Status form) path fault = IsRefusedOfLastRound may_hold path TellsOfNoRun fault
IsNotAnswered may_hold (Audit form) path fault = IsRefusedOfLastRound may_hold path (λ plan journal fault. fault ≡ Memory) fault
IsNotAnswered may_hold (Graph shape) path fault = IsNotDrawn may_hold path fault

-- This is said of the records of a journal, which are those of a run of the plan.
pub record IsOfRecords (plan : Plan) (journal : Option (List ℕ)) (Says : List Record → Type 0) : Type 0 where
  pub past : List Record
  pub are_records : records_in_bytes plan (journal_bytes journal) ≡ Some (chronological past)
  pub lawful : IsTrue (is_lawful plan past)
  pub says : Says past

-- why a command is refused that needs the plan of the last round and its records
abbrev pub IsNoStatus : Holding → (path : List ℕ) → RunFault → Type 0
IsNoStatus may_hold path fault = IsRefusedOfLastRound may_hold path TellsOfNoRun fault
