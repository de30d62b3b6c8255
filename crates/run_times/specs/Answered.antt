-- What `times` prints.
use Rattle.std.specs.Prelude.{◌≡◌, ℕ, Bool, List, ◌++◌, length, Option, Some, None, codes}
use Rattle.splices_flat.specs.Opening.{Files}
use Rattle.dag_main_files.specs.Opened.{Holding, IsReadAs, IsUnreadable, IsOfFiles, IsRefusedFor, HasNoGraph}
use Rattle.dag_graph.specs.Graph.{Network}
use Rattle.dag_main_check.specs.Planned.{IsGraphOf}
use Rattle.dag_main_check.specs.Warnings.{warning_lines}
use Rattle.dag_main_check.specs.declared.fault.RunFault.{RunFault}
use Rattle.run_times.specs.declared.form.Form.{Form}
use Rattle.run_times.specs.declared.form.Form.TheVariants.{Table, Picture, Json, Summary, Rounds}
use Rattle.run_times.specs.declared.runs.PhaseRun.{PhaseRun}
use Rattle.run_times.specs.Table.{table_text_of}
use Rattle.run_times.specs.Reading.{IsRunsOf}
use Rattle.run_times.specs.Picture.{IsTimesPicture}
use Rattle.run_times.specs.TimesData.{times_json_of}
use Rattle.run_times.specs.Critical.{IsCriticalPath, AreMarksOf}
use Rattle.run_times.specs.Summary.{IsSummary}
use Rattle.run_times.specs.Rounds.{TwoLogs, IsRoundsTable}

-- Phases of a graph are shown in the form that is asked for. A table, a picture and JSON have the marks of the critical path; a summary says its parts.
-- A table of rounds is of the logs alone.
abbrev pub IsShown : Form → TwoLogs → Network → List PhaseRun → List ℕ → List Bool → List ℕ → Type 0
IsShown Table logs graph runs path marks text = text ≡ table_text_of runs marks
IsShown Picture logs graph runs path marks text = IsTimesPicture runs marks text
IsShown Json logs graph runs path marks text = text ≡ times_json_of runs marks
IsShown Summary logs graph runs path marks text = IsSummary graph runs path text
IsShown Rounds logs graph runs path marks text = IsRoundsTable logs text

-- the same with a mark for each phase: whether it is on the path
pub record IsShownWith (logs : TwoLogs) (graph : Network) (runs : List PhaseRun) (path : List ℕ) (form : Form) (text : List ℕ) : Type 0 where
  pub marks : List Bool
  pub are_marks : AreMarksOf path (length runs) marks
  pub shown : IsShown form logs graph runs path marks text

-- This is shown of logs and a graph: the phases that reading the last log gives, with their critical path.
pub record IsShownOf (logs : TwoLogs) (graph : Network) (form : Form) (text : List ℕ) : Type 0 where
  pub runs : List PhaseRun
  pub runs_are : IsRunsOf logs.last runs
  pub path : List ℕ
  pub is_path : IsCriticalPath graph runs path
  pub shown : IsShownWith logs graph runs path form text

-- This is printed of these files of a path, which make a graph, and of logs; and these are the warnings of the files.
pub record IsTimesBy (logs : TwoLogs) (path : List ℕ) (form : Form) (text warnings : List ℕ) (status : ℕ) (files : Files) (entries : List (List ℕ × List ℕ)) : Type 0 where
  pub graph : Network
  pub is_graph : IsGraphOf files path graph
  pub shown : IsShownOf logs graph form text
  pub warnings_are : warnings ≡ warning_lines graph.dag.warnings
  pub status_is : status ≡ 0

-- `top.log`
abbrev pub log_name_of : List ℕ → List ℕ
log_name_of top = top ++ codes ".log"

-- `top.log.old`, the log of the round before
abbrev pub old_log_name_of : List ℕ → List ℕ
old_log_name_of top = top ++ codes ".log.old"

-- The log of the round before is read for a table of rounds alone, and may be missing.
abbrev pub IsLogBefore : Holding → Form → (path : List ℕ) → Option (List ℕ) → Type 0
IsLogBefore may_hold Rounds path log = IsReadAs may_hold (old_log_name_of path) log
IsLogBefore may_hold _ path log = log ≡ None

-- That is printed of the files of a path and of the logs beside them.
pub record IsTimes (may_hold : Holding) (path : List ℕ) (form : Form) (text warnings : List ℕ) (status : ℕ) : Type 0 where
  pub logs : TwoLogs
  pub last_is : IsReadAs may_hold (log_name_of path) (Some logs.last)
  pub before_is : IsLogBefore may_hold form path logs.before
  pub of_files : IsOfFiles may_hold path (IsTimesBy logs path form text warnings status)

-- Why nothing is printed: the files make no graph; or no log can be read, or memory ran out; or rounds are asked for, and the log of the round before can't be read.
pub data IsNoTimes (may_hold : Holding) (path : List ℕ) (form : Form) : RunFault → Type 0 where
  makes_no_graph : (fault : RunFault) → IsRefusedFor may_hold path (HasNoGraph path) fault → IsNoTimes may_hold path form fault
  has_no_log : (fault : RunFault) → IsUnreadable may_hold (log_name_of path) fault → IsNoTimes may_hold path form fault
  has_no_log_before : (fault : RunFault) → form ≡ Rounds → IsUnreadable may_hold (old_log_name_of path) fault → IsNoTimes may_hold path form fault
