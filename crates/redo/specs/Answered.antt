-- What `redo` answers, and why it is refused.
use Rattle.std.specs.Prelude.{◌≡◌, ℕ, Bool, true, List, [], ◌++◌, Option, codes, string_bytes}
use Rattle.node_machine.specs.declared.Record.{Record}
use Rattle.rescue_file.specs.Numbered.{rescue_name_of}
use Rattle.run_plan.specs.Plan.{Plan, count_of}
use Rattle.event_journal_log.specs.Image.{replay_of}
use Rattle.log_lines.specs.Words.{word_text}
use Rattle.dag_main_check.specs.Warnings.{warning_lines}
use Rattle.dag_main_check.specs.declared.fault.RunFault.{RunFault}
use Rattle.dag_main_check.specs.declared.fault.RunFault.TheVariants.{Memory}
use Rattle.dag_main_files.specs.Beside.{journal_name_of, lock_name_of, IsRefusalOf}
use Rattle.dag_main_files.specs.Folder.{Paths, any_paths}
use Rattle.dag_main_files.specs.Opened.{Holding, IsReadAs}
use Rattle.dag_main_inspect.specs.Asked.{IsOfRecords, IsNoStatus}
use Rattle.dag_main_inspect.specs.LastRound.{IsOfLastRound}
use Rattle.dag_main_inspect.specs.Statused.{journal_bytes}
use Rattle.failure_report.specs.Named.{AreNumbers, IsUnknownName}
use Rattle.salvage.specs.Refused.{IsNotOwn}
use Rattle.salvage.specs.Salvaged.{report_line}
use Rattle.redo.specs.Redone.{IsRedone}
use Rattle.redo.specs.Numbers.{is_cut_short, IsNextNumber, IsNoNextNumber}
use Rattle.redo.specs.declared.here.Found.{Found}
use Rattle.redo.specs.declared.here.Found.TheVariants.{Marked, Unknown}

-- `dagrun: DAG has no round whose nodes are done`
abbrev pub no_round_line : List ℕ → List ℕ
no_round_line path = codes "dagrun: " ++ (word_text path ++ codes " has no round whose nodes are done\n")

-- The rescue file of a run without these nodes, how many it marks of how many, and the warnings of the files.
pub record IsMarkedOf (plan : Plan) (past : List Record) (only : Bool) (numbers text : List ℕ) (done total : ℕ) (warnings : List ℕ) : Type 0 where
  pub redone : IsRedone plan past only numbers text done
  pub total_is : total ≡ count_of plan
  pub warnings_are : warnings ≡ warning_lines plan.graph.dag.warnings

-- what is found of the nodes of these names: the rescue file without them; or what is reported of the first name that is none
abbrev pub IsFoundOfNames : Plan → List Record → (path : List ℕ) → (names : List (List ℕ)) → (only : Bool) → Found → Type 0
IsFoundOfNames plan past path names only (Marked marked) = (numbers : List ℕ) × AreNumbers plan names numbers
    × IsMarkedOf plan past only numbers (string_bytes marked.redone.text) marked.redone.done marked.total (string_bytes marked.warnings)
IsFoundOfNames plan past path names only (Unknown line) = IsUnknownName plan path names (string_bytes line)

-- What is printed of a rescue file that marks so many nodes of so many, where it has this number: that, with its name.
pub record IsRedoReport (IsNumber : ℕ → Type 0) (path : List ℕ) (done total : ℕ) (file_warnings text warnings : List ℕ) (status : ℕ) : Type 0 where
  pub number : ℕ
  pub next : IsNumber number
  pub text_is : text ≡ report_line done total (rescue_name_of path number)
  pub warnings_are : warnings ≡ file_warnings
  pub status_is : status ≡ 0

-- The answer of a run of the DAG file of a path: how many nodes stay done where those of these names run again, and the name of the rescue file
-- that marks them; or, where a name is none of a node, the line that reports it as a warning.
pub data IsRedoAnswer (IsNumber : ℕ → Type 0) (plan : Plan) (past : List Record) (path : List ℕ) (names : List (List ℕ)) (only : Bool) (text warnings : List ℕ) (status : ℕ) : Type 0 where
  stays_done_so : (numbers rescue_text : List ℕ) (done : ℕ) → AreNumbers plan names numbers → IsRedone plan past only numbers rescue_text done →
      IsRedoReport IsNumber path done (count_of plan) (warning_lines plan.graph.dag.warnings) text warnings status →
      IsRedoAnswer IsNumber plan past path names only text warnings status
  unknown_name : IsUnknownName plan path names warnings → text ≡ [] → status ≡ 125 → IsRedoAnswer IsNumber plan past path names only text warnings status

-- That is the answer for the DAG file of a path: of the plan of its last round and the records of the journal; or there is no journal.
pub data IsRedo (may_hold : Holding) (paths : Paths) (path : List ℕ) (names : List (List ℕ)) (only : Bool) (text warnings : List ℕ) (status : ℕ) : Type 0 where
  has_no_round : paths.lacks (journal_name_of path) → text ≡ [] → warnings ≡ no_round_line path → status ≡ 125 → IsRedo may_hold paths path names only text warnings status
  redone : IsOfLastRound may_hold path (λ plan journal. IsOfRecords plan journal
      (λ past. IsRedoAnswer (IsNextNumber paths path (journal_bytes journal)) plan past path names only text warnings status)) → IsRedo may_hold paths path names only text warnings status

-- Why no rescue file of the DAG file of this path is written after a journal of these bytes: it has no number; the system refuses the rescue file of its
-- number, or to put the journal of a round away that was cut short; or memory ran out.
pub data IsNotWritten (path journal : List ℕ) : RunFault → Type 0 where
  unnumbered : (fault : RunFault) → IsNoNextNumber path journal fault → IsNotWritten path journal fault
  numbered_refused : (number : ℕ) (fault : RunFault) → IsNextNumber any_paths path journal number → IsRefusalOf (rescue_name_of path number) fault → IsNotWritten path journal fault
  journal_stays : (fault : RunFault) → is_cut_short (replay_of journal) ≡ true → IsRefusalOf (journal_name_of path) fault → IsNotWritten path journal fault
  writing_had_no_memory : IsNotWritten path journal Memory

-- Why nothing may be written beside the DAG file of this path: a file is in the way, another manager has the lock, or the system refuses it; or memory ran out.
pub data IsKeptOut (path : List ℕ) : RunFault → Type 0 where
  by_other_files : (fault : RunFault) → IsNotOwn path fault → IsKeptOut path fault
  by_another_manager : (fault : RunFault) → IsRefusalOf (lock_name_of path) fault → IsKeptOut path fault
  looking_had_no_memory : IsKeptOut path Memory

-- Why nothing is answered: nothing may be written there; or for a cause for which `status` is refused; or the rescue file is not written after the journal.
pub data IsNoRedo (may_hold : Holding) (path : List ℕ) : RunFault → Type 0 where
  kept_out : (fault : RunFault) → IsKeptOut path fault → IsNoRedo may_hold path fault
  not_answered : (fault : RunFault) → IsNoStatus may_hold path fault → IsNoRedo may_hold path fault
  not_written : (journal : Option (List ℕ)) (fault : RunFault) → IsReadAs may_hold (journal_name_of path) journal → IsNotWritten path (journal_bytes journal) fault →
      IsNoRedo may_hold path fault
