-- What is beside a DAG file, and what is answered of it.
use Rattle.std.specs.Prelude.{◌≡◌, ◌≢◌, ◌<◌, ◌≤◌, ◌+◌, ◌-◌, ℕ, Bool, true, false, zero, suc, take, nat_lt, List, ◌++◌, length, slice_index, Option, Some, None, Result, Ok, Err, is_some, codes, string_bytes, String, if◌then◌else◌}
use Rattle.std.specs.Global.{Global}
use Rattle.std.specs.Path.{rfind_below}
use Rattle.splices_flat.specs.Opening.{Files}
use Rattle.rescue_file.specs.Numbered.{IsFileNumber, rescue_name_of}
use Rattle.event_journal_log.specs.declared.fault.JournalFault.{JournalFault}
use Rattle.event_journal_log.specs.Journal.{IsReadFault}
use Rattle.event_journal_log.specs.Image.{Found}
use Rattle.event_journal_log.specs.Peeks.{ends_with_finish}
use Rattle.recovery_manager.specs.declared.fault.ManagerFault.TheVariants as manager
use Rattle.dag_main_files.specs.declared.rounds.Journaled.{Journaled}
use Rattle.dag_main_files.specs.declared.rounds.Journaled.TheVariants as journals
use Rattle.dag_main_files.specs.declared.rounds.Round.{Round}
use Rattle.dag_main_check.specs.declared.fault.RunFault.{RunFault}
use Rattle.dag_main_check.specs.declared.fault.RunFault.TheVariants.{NotThere, Unfinished, InManager, FileRefused, Memory}

-- `top.journal`
abbrev pub journal_name_of : List ℕ → List ℕ
journal_name_of top = top ++ codes ".journal"

-- `top.lock`, the file that a manager locks
abbrev pub lock_name_of : List ℕ → List ℕ
lock_name_of top = top ++ codes ".lock"

-- the folder of a file, by its path and where the last slash of that is: what is before the slash; `/` where that is nothing, and `.` where there is no slash
abbrev pub folder_before : List ℕ → Option ℕ → List ℕ
folder_before path None = codes "."
folder_before path (Some zero) = codes "/"
folder_before path (Some (suc n)) = take (suc n) path

abbrev pub folder_name_of : List ℕ → List ℕ
folder_name_of path = folder_before path (rfind_below 47 path (length path))

-- How many bytes the name of a file has by its path: those after the last slash, or all where there is none.
pub data IsNameLength (path : List ℕ) : ℕ → Type 0 where
  no_slash : ((place : ℕ) → place < length path → slice_index path place ≢ 47) → IsNameLength path (length path)
  behind_slash : (slash : ℕ) → slash < length path → slice_index path slash ≡ 47 →
      ((place : ℕ) → slash < place → place < length path → slice_index path place ≢ 47) → IsNameLength path (length path - slash - 1)

-- the longest path of a file that a round can need beside its DAG file: that of the last rescue file, once it is put away
abbrev pub longest_path_of : List ℕ → List ℕ
longest_path_of top = top ++ codes ".rescue999.old"

-- its name is one that a file can have: it has at most 255 bytes
abbrev pub HasRoomForNames : List ℕ → Type 0
HasRoomForNames top = (bytes : ℕ) × IsNameLength (longest_path_of top) bytes × (bytes ≤ 255)

-- its name is too long, and it is returned; or memory ran out
pub data IsRoomFault (top : List ℕ) : RunFault → Type 0 where
  too_long : (file : String Global) (bytes : ℕ) → IsNameLength (longest_path_of top) bytes → 255 < bytes → string_bytes file ≡ longest_path_of top →
      IsRoomFault top (FileRefused file)
  naming_had_no_memory : IsRoomFault top Memory

-- the system refuses the file of this path, or memory ran out
pub data IsRefusalOf (path : List ℕ) : RunFault → Type 0 where
  path_refused : (file : String Global) → string_bytes file ≡ path → IsRefusalOf path (FileRefused file)
  refusing_had_no_memory : IsRefusalOf path Memory

-- no file of this path can be read where these files are held; or memory ran out
pub data IsRefusalHeld (holds : Files) (path : List ℕ) : RunFault → Type 0 where
  unheld_refused : (file : String Global) → string_bytes file ≡ path → holds path ≡ None → IsRefusalHeld holds path (FileRefused file)
  refusing_unheld_had_no_memory : IsRefusalHeld holds path Memory

-- standard input, which is asked for by the path `-`, can't be read; or memory ran out
pub data IsInputFault (path : List ℕ) : RunFault → Type 0 where
  input_refused : (file : String Global) → path ≡ codes "-" → string_bytes file ≡ codes "-" → IsInputFault path (FileRefused file)
  input_had_no_memory : IsInputFault path Memory

-- the journal of a DAG file may be another user's; it can't be read; or memory ran out
pub data IsJournalFault (top : List ℕ) : RunFault → Type 0 where
  journal_of_another : (fault : RunFault) → IsRefusalOf (journal_name_of top) fault → IsJournalFault top fault
  journal_refused : (fault : JournalFault) → IsReadFault fault → IsJournalFault top (InManager (manager.Journal fault))
  peeking_had_no_memory : IsJournalFault top Memory

-- Why the rescue files of higher numbers are not put away: the system refuses their folder, or the one of a number above `from`. Or memory ran out.
pub data IsRescueMoveFault (top : List ℕ) (from : ℕ) : RunFault → Type 0 where
  folder_not_listed : (fault : RunFault) → IsRefusalOf (folder_name_of top) fault → IsRescueMoveFault top from fault
  rescue_not_renamed : (number : ℕ) (fault : RunFault) → from < number → IsFileNumber number → IsRefusalOf (rescue_name_of top number) fault → IsRescueMoveFault top from fault

-- where a round is to go back to a rescue file, its number is one that such a file can have
abbrev pub MayGoBack : Option ℕ → Type 0
MayGoBack None = Unit {0}
MayGoBack (Some number) = IsFileNumber number

-- Why it is not known which round this is, the first cause first. The rescue file is not there to which the round is to go back, if it is
-- to: no file has its number, or it is missing; then, the journal may be another user's, or can't be read; the run is to go back and has not ended; it is to go on,
-- and the header of its journal has a number that no rescue file has; the system refuses the folder. Or memory ran out.
pub data IsRoundFault (top : List ℕ) (from : Option ℕ) : RunFault → Type 0 where
  not_there : (number : ℕ) → from ≡ Some number → IsRoundFault top from (NotThere number)
  journal_not_read : (fault : RunFault) → MayGoBack from → IsJournalFault top fault → IsRoundFault top from fault
  not_ended : (number : ℕ) → from ≡ Some number → IsFileNumber number → IsRoundFault top from Unfinished
  no_such_number : (number : ℕ) → from ≡ None → ¬ (IsFileNumber number) → IsRoundFault top from (NotThere number)
  folder_not_read : (fault : RunFault) → MayGoBack from → IsRefusalOf (folder_name_of top) fault → IsRoundFault top from fault

-- the number after the highest; 999 is written again
abbrev pub number_behind : ℕ → ℕ
number_behind highest = if nat_lt highest 999 then highest + 1 else 999

-- a new round begins: there is no journal, or that of a finished one
abbrev pub BeginsAnew : Journaled → Type 0
BeginsAnew journals.Nothing = Unit {0}
BeginsAnew journals.Finished = Unit {0}
BeginsAnew journals.Unfinished = ⊥

-- Which rescue files a round reads and writes, where one number counts as the highest: a new one reads that of the highest number, or none, which
-- is 0, where this is asked for, and writes the next; one that goes back reads that of the number to which it is to go back, and writes the next;
-- one that goes on keeps the numbers of its journal's header. A new one runs POST after a failed PRE where this is asked for.
pub data IsRoundWith (Counts : ℕ → Type 0) (autorescue : Bool) (from : Option ℕ) (always_post : Bool) (round : Round) : Type 0 where
  begins_anew : (highest : ℕ) → from ≡ None → Counts highest → BeginsAnew round.journal → round.used ≡ (if autorescue then highest else 0) →
      round.next ≡ number_behind highest → round.goes_back ≡ false → round.always_post ≡ always_post → IsRoundWith Counts autorescue from always_post round
  goes_back : (number : ℕ) → from ≡ Some number → IsFileNumber number → BeginsAnew round.journal → round.used ≡ number →
      round.next ≡ number_behind number → round.goes_back ≡ true → round.always_post ≡ always_post → IsRoundWith Counts autorescue from always_post round
  goes_on : from ≡ None → round.journal ≡ journals.Unfinished → round.goes_back ≡ false → IsRoundWith Counts autorescue from always_post round

-- the same, where the highest may be any number that a rescue file has, or 0
abbrev pub IsRoundBy : Bool → Option ℕ → Bool → Round → Type 0
IsRoundBy autorescue from always_post round = IsRoundWith (λ highest. highest ≤ 999) autorescue from always_post round

-- A round goes on, with the numbers and the flag of a header.
pub record GoesOnBy (used next : ℕ) (always_post : Bool) (round : Round) : Type 0 where
  pub goes_on_is : round.journal ≡ journals.Unfinished
  pub used_is : round.used ≡ used
  pub next_is : round.next ≡ next
  pub flag_is : round.always_post ≡ always_post

-- what becomes of a journal with this header, by whether its last record is Finish
abbrev pub IsRoundFound : Bool → Found → Round → Type 0
IsRoundFound true found round = round.journal ≡ journals.Finished
IsRoundFound false found round = GoesOnBy found.header.used found.header.next found.header.always_post round

-- A round is that of the journal which reading gives: it begins where there is none, or that of a run which has ended; it goes on by the header
-- of one that has not.
abbrev pub HasJournal : Result (Option Found) JournalFault → Round → Type 0
HasJournal (Ok None) round = round.journal ≡ journals.Nothing
HasJournal (Ok (Some found)) round = IsRoundFound (ends_with_finish found.records) found round
HasJournal (Err fault) round = ⊥

-- the bytes of the rescue file of a round: none where it reads none, and some where it goes back
pub record IsRescueOf (round : Round) (rescue : Option (List ℕ)) : Type 0 where
  pub none_read : round.used ≡ 0 → rescue ≡ None
  pub one_read : round.goes_back ≡ true → is_some rescue ≡ true

-- Why it is not known which they are: the file is missing to which the round goes back; the system refuses it; memory ran out.
pub data IsRescueReadFault (top : List ℕ) (round : Round) : RunFault → Type 0 where
  missing : round.goes_back ≡ true → IsRescueReadFault top round (NotThere round.used)
  rescue_not_read : (fault : RunFault) → IsRefusalOf (rescue_name_of top round.used) fault → IsRescueReadFault top round fault
