-- What is beside a DAG file of its last round, and the plan of that round.
use Rattle.std.specs.Prelude.{◌≡◌, ◌≢◌, ◌<◌, ℕ, zero, suc, Bool, false, List, Option, Some, None, Result, Ok, Err}
use Rattle.rescue_file.specs.Numbered.{rescue_name_of}
use Rattle.run_plan.specs.Plan.{Plan}
use Rattle.event_journal_log.specs.declared.fault.JournalFault.{JournalFault}
use Rattle.event_journal_log.specs.Image.{Found, replay_of}
use Rattle.event_journal_log.specs.Peeks.{ends_with_finish}
use Rattle.dag_main_files.specs.Beside.{journal_name_of}
use Rattle.dag_main_files.specs.Opened.{Holding, IsReadAs, IsUnreadable, IsOfFiles, IsRefusedFor, HasPlan, HasNoPlan}
use Rattle.dag_main_check.specs.Planned.{in_line, named_by}
use Rattle.dag_main_check.specs.declared.fault.RunFault.{RunFault}
use Rattle.dag_main_check.specs.declared.fault.RunFault.TheVariants.{NotThere, Memory}
use Rattle.dag_main_inspect.specs.Statused.{journal_bytes, flag_by}
use Rattle.dag_main_inspect.specs.declared.journal.Head.{Head}

-- the number of the rescue file that a run read, as the header of its journal says: 0 for none, and where there is no header
abbrev pub used_read : Result (Option Found) JournalFault → ℕ
used_read (Ok None) = 0
used_read (Ok (Some found)) = found.header.used
used_read (Err fault) = 0

abbrev pub used_by : Option (List ℕ) → ℕ
used_by journal = used_read (replay_of (journal_bytes journal))

-- whether the last record of a journal is Finish
abbrev pub finished_read : Result (Option Found) JournalFault → Bool
finished_read (Ok None) = false
finished_read (Ok (Some found)) = ends_with_finish found.records
finished_read (Err fault) = false

abbrev pub has_ended_by : Option (List ℕ) → Bool
has_ended_by journal = finished_read (replay_of (journal_bytes journal))

-- the journal that bytes are read as; none where none was begun, and where they can't be read
abbrev pub Decodes : List ℕ → Option Found → Type 0
Decodes bytes None = (found : Found) → replay_of bytes ≢ Ok (Some found)
Decodes bytes (Some found) = replay_of bytes ≡ Ok (Some found)

-- What the header of a journal says, and whether its last record is Finish; where there is none to be read, no rescue file was read, POST runs after no failed
-- PRE, and the run has not ended.
pub record IsHead (journal : Option (List ℕ)) (head : Head) : Type 0 where
  pub used_is : head.used ≡ used_by journal
  pub flag_is : head.always_post ≡ flag_by journal
  pub end_is : head.finished ≡ has_ended_by journal

-- the path of the rescue file of a number; none of 0
abbrev pub used_name : List ℕ → ℕ → Option (List ℕ)
used_name path zero = None
used_name path (suc n) = Some (rescue_name_of path (suc n))

-- the file of a path, if one is named; without a name there is none
abbrev pub IsNamedFile : Holding → Option (List ℕ) → Option (List ℕ) → Type 0
IsNamedFile may_hold None bytes = bytes ≡ None
IsNamedFile may_hold (Some path) bytes = IsReadAs may_hold path bytes

-- The journal and the rescue file of the last round of a path: the file of the path and `.journal`, and the one that the journal's header names.
pub record IsLastRound (may_hold : Holding) (path : List ℕ) (journal rescue : Option (List ℕ)) : Type 0 where
  pub journal_is : IsReadAs may_hold (journal_name_of path) journal
  pub rescue_is : IsNamedFile may_hold (used_name path (used_by journal)) rescue

-- Why it is not known which round of a path is the last one, and what its rescue file says: the journal can't be read; its header has a number that no
-- rescue file has; the rescue file that it names can't be read. Or memory ran out.
pub data IsNoLastRound (may_hold : Holding) (path : List ℕ) : RunFault → Type 0 where
  journal_refused : (fault : RunFault) → IsUnreadable may_hold (journal_name_of path) fault → IsNoLastRound may_hold path fault
  no_such_rescue : (journal : Option (List ℕ)) → IsReadAs may_hold (journal_name_of path) journal → 999 < used_by journal →
      IsNoLastRound may_hold path (NotThere (used_by journal))
  rescue_refused : (journal : Option (List ℕ)) (name : List ℕ) (fault : RunFault) → IsReadAs may_hold (journal_name_of path) journal →
      used_name path (used_by journal) ≡ Some name → IsUnreadable may_hold name fault → IsNoLastRound may_hold path fault
  looking_had_no_memory : IsNoLastRound may_hold path Memory

-- The last round of a path was opened: this is its plan, of the files of the path and of the rescue file that the journal names, with POST scripts run as the
-- journal's header says; and this is its journal.
pub record IsOpenedRound (may_hold : Holding) (path : List ℕ) (plan : Plan) (journal : Option (List ℕ)) : Type 0 where
  pub rescue : Option (List ℕ)
  pub last : IsLastRound may_hold path journal rescue
  pub planned : IsOfFiles may_hold path (HasPlan (flag_by journal) path rescue plan)

-- Why it was not: it is not known which round is the last one; or it has no plan, the fault of a line of the rescue file returned with that file's name.
pub data IsNotOpenedRound (may_hold : Holding) (path : List ℕ) : RunFault → Type 0 where
  no_last_round : (fault : RunFault) → IsNoLastRound may_hold path fault → IsNotOpenedRound may_hold path fault
  has_no_plan : (journal rescue : Option (List ℕ)) (fault : RunFault) → IsLastRound may_hold path journal rescue →
      IsRefusedFor may_hold path (HasNoPlan path rescue) fault → IsNotOpenedRound may_hold path (named_by (in_line fault) (used_name path (used_by journal)) fault)

-- This is said of the last round of a path, by its plan and its journal.
pub record IsOfLastRound (may_hold : Holding) (path : List ℕ) (Says : Plan → Option (List ℕ) → Type 0) : Type 0 where
  pub plan : Plan
  pub journal : Option (List ℕ)
  pub opened : IsOpenedRound may_hold path plan journal
  pub says : Says plan journal

-- Why nothing is: it was not opened; or it is refused for what its plan and its journal say.
pub data IsRefusedOfLastRound (may_hold : Holding) (path : List ℕ) (Refused : Plan → Option (List ℕ) → RunFault → Type 0) : RunFault → Type 0 where
  not_opened : (fault : RunFault) → IsNotOpenedRound may_hold path fault → IsRefusedOfLastRound may_hold path Refused fault
  refused_by_round : (fault : RunFault) → IsOfLastRound may_hold path (λ plan journal. Refused plan journal fault) → IsRefusedOfLastRound may_hold path Refused fault
