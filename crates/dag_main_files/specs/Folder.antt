-- What is read where files are held.
use Rattle.std.specs.Prelude.{◌≡◌, ◌<◌, ◌≤◌, ℕ, zero, suc, Bool, true, false, List, Option, Some, None, Result, Ok}
use Rattle.splices_flat.specs.Opening.{Files}
use Rattle.splices_flat.specs.FileSet.{bytes_of}
use Rattle.splices_flat.specs.declared.file_set.FileSet.{FileSet}
use Rattle.rescue_file.specs.Numbered.{IsFileNumber, rescue_name_of}
use Rattle.event_journal_log.specs.declared.fault.JournalFault.{JournalFault}
use Rattle.event_journal_log.specs.Image.{Found, replay_of}
use Rattle.event_journal_log.specs.Peeks.{ends_with_finish}
use Rattle.dag_main_files.specs.declared.rounds.Round.{Round}
use Rattle.dag_main_check.specs.declared.fault.RunFault.{RunFault}
use Rattle.dag_main_check.specs.declared.fault.RunFault.TheVariants.{NotThere, Unfinished}
use Rattle.dag_main_files.specs.Journals.{IsUnread}
use Rattle.dag_main_files.specs.Beside.{journal_name_of, folder_name_of, IsRefusalOf, IsRefusalHeld, MayGoBack, IsRoundWith, HasJournal}

-- each file of a set is one that is held, with these bytes
abbrev pub AreHeld : Files → FileSet → Type 0
AreHeld holds set = (path bytes : List ℕ) → bytes_of set path ≡ Some bytes → holds path ≡ Some bytes

-- each file of a set is in another one, too
abbrev pub KeepsFiles : FileSet → FileSet → Type 0
KeepsFiles set other = (path bytes : List ℕ) → bytes_of set path ≡ Some bytes → bytes_of other path ≡ Some bytes

-- A set of files that were read where these are held: it has no others, and the file of this path, if that is held.
pub record IsReadFrom (holds : Files) (top : List ℕ) (set : FileSet) : Type 0 where
  pub held : AreHeld holds set
  pub has_top : bytes_of set top ≡ holds top

-- what reading a journal gives; none was begun in a file that is missing
abbrev pub read_at : Option (List ℕ) → Result (Option Found) JournalFault
read_at None = Ok None
read_at (Some bytes) = replay_of bytes

-- what reading the journal of a DAG file gives, where these files are held
abbrev pub journal_in : Files → List ℕ → Result (Option Found) JournalFault
journal_in holds top = read_at (holds (journal_name_of top))

-- the bytes of the rescue file that a round reads by this number, where these files are held; it reads none by 0
abbrev pub rescue_in : Files → List ℕ → ℕ → Option (List ℕ)
rescue_in holds top zero = None
rescue_in holds top (suc n) = holds (rescue_name_of top (suc n))

-- The highest number of a rescue file of a DAG file among the paths that are there; 0 where there is none.
pub record IsHighestThere (has : List ℕ → Bool) (top : List ℕ) (highest : ℕ) : Type 0 where
  pub within : highest ≤ 999
  pub there : 0 < highest → has (rescue_name_of top highest) ≡ true
  pub above : (number : ℕ) → highest < number → number ≤ 999 → has (rescue_name_of top number) ≡ false

-- What may be known of the paths beside a DAG file: that one is missing, and that a number may be the highest of its rescue files.
pub record Paths : Type 1 where
  pub lacks : (path : List ℕ) → Type 0
  pub highest : (top : List ℕ) → ℕ → Type 0

-- nothing, where others may change them
abbrev pub any_paths : Paths
any_paths = record { lacks = λ path. Unit {0}; highest = λ top number. number ≤ 999 }

-- they are those that are there
abbrev pub these_paths : (has : List ℕ → Bool) → Paths
these_paths has = record { lacks = λ path. has path ≡ false; highest = IsHighestThere has }

-- The round that is found where these files are held and these paths are there: its numbers are those of the highest rescue file that is there,
-- and it is a new one, or goes on, as the journal says that is held.
pub record IsRoundFrom (holds : Files) (has : List ℕ → Bool) (top : List ℕ) (autorescue : Bool) (from : Option ℕ) (always_post : Bool) (round : Round) : Type 0 where
  pub by_highest : IsRoundWith (IsHighestThere has top) autorescue from always_post round
  pub by_journal : HasJournal (journal_in holds top) round

-- Why the journal of a DAG file is refused where these files are held: none can be read, or its bytes are no journal. Or memory ran out.
pub data IsJournalFaultHeld (holds : Files) (top : List ℕ) : RunFault → Type 0 where
  journal_unheld : (fault : RunFault) → IsRefusalHeld holds (journal_name_of top) fault → IsJournalFaultHeld holds top fault
  journal_unread : (bytes : List ℕ) (fault : RunFault) → holds (journal_name_of top) ≡ Some bytes → IsUnread bytes fault → IsJournalFaultHeld holds top fault

-- the journal that is held has this header, and its run has not ended
pub record IsUnfinishedHeld (holds : Files) (top : List ℕ) (found : Found) : Type 0 where
  pub reads : journal_in holds top ≡ Ok (Some found)
  pub not_over : ends_with_finish found.records ≡ false

-- a header has a number that no rescue file has, the first of these, and this is the fault
pub data IsBadHeader (used next : ℕ) : RunFault → Type 0 where
  bad_used : 999 < used → IsBadHeader used next (NotThere used)
  bad_next : ¬ (IsFileNumber next) → IsBadHeader used next (NotThere next)

-- Why it is not known which round this is where these files are held and these paths are there, the first cause first. The rescue file is not there to which the
-- round is to go back, if it is to: no file has its number, or its path is not there; then, the journal is refused; the run is to go back, and that of the journal
-- has not ended; it is to go on, and the header of the journal has a number that no rescue file has; the system refuses the folder. Or memory ran out.
pub data IsRoundFaultHeld (holds : Files) (has : List ℕ → Bool) (top : List ℕ) (from : Option ℕ) : RunFault → Type 0 where
  held_no_such_file : (number : ℕ) → from ≡ Some number → ¬ (IsFileNumber number) → IsRoundFaultHeld holds has top from (NotThere number)
  held_not_there : (number : ℕ) → from ≡ Some number → has (rescue_name_of top number) ≡ false → IsRoundFaultHeld holds has top from (NotThere number)
  held_journal_not_read : (fault : RunFault) → MayGoBack from → IsJournalFaultHeld holds top fault → IsRoundFaultHeld holds has top from fault
  held_not_ended : (number : ℕ) (found : Found) → from ≡ Some number → IsFileNumber number → IsUnfinishedHeld holds top found →
      IsRoundFaultHeld holds has top from Unfinished
  held_bad_header : (found : Found) (fault : RunFault) → from ≡ None → IsUnfinishedHeld holds top found → IsBadHeader found.header.used found.header.next fault →
      IsRoundFaultHeld holds has top from fault
  held_folder_not_read : (fault : RunFault) → MayGoBack from → IsRefusalOf (folder_name_of top) fault → IsRoundFaultHeld holds has top from fault

-- Why it is not known what the rescue file of a round says, where these files are held: none is held, and the round goes back to it; or it is refused. Or memory
-- ran out.
pub data IsRescueReadFaultHeld (holds : Files) (top : List ℕ) (round : Round) : RunFault → Type 0 where
  held_missing : round.goes_back ≡ true → holds (rescue_name_of top round.used) ≡ None → IsRescueReadFaultHeld holds top round (NotThere round.used)
  held_rescue_not_read : (fault : RunFault) → IsRefusalOf (rescue_name_of top round.used) fault → IsRescueReadFaultHeld holds top round fault
