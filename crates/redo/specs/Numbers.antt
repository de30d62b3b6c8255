-- The number of the next rescue file of a round.
use Rattle.std.specs.Prelude.{◌≡◌, ℕ, Bool, false, not, List, Option, Some, None, Result, Ok, Err}
use Rattle.rescue_file.specs.Numbered.{IsFileNumber}
use Rattle.event_journal_log.specs.declared.fault.JournalFault.{JournalFault}
use Rattle.event_journal_log.specs.Image.{Found, replay_of}
use Rattle.event_journal_log.specs.Peeks.{ends_with_finish}
use Rattle.dag_main_check.specs.declared.fault.RunFault.{RunFault}
use Rattle.dag_main_check.specs.declared.fault.RunFault.TheVariants.{NotThere}
use Rattle.dag_main_files.specs.Beside.{number_behind, folder_name_of, IsRefusalOf}
use Rattle.dag_main_files.specs.Folder.{Paths}
use Rattle.dag_main_files.specs.Journals.{IsUnread}

-- whether reading gives a round that was cut short
abbrev pub is_cut_short : Result (Option Found) JournalFault → Bool
is_cut_short (Ok None) = false
is_cut_short (Ok (Some found)) = not (ends_with_finish found.records)
is_cut_short (Err fault) = false

-- That of the round whose journal has these bytes, where one number counts as the highest: of one that was cut short the number that its header has
-- as the next; else the number after the highest.
pub data IsNumberWith (Counts : ℕ → Type 0) (journal : List ℕ) (number : ℕ) : Type 0 where
  by_header : (found : Found) → replay_of journal ≡ Ok (Some found) → ends_with_finish found.records ≡ false → number ≡ found.header.next → IsNumberWith Counts journal number
  after_highest : (highest : ℕ) → Counts highest → is_cut_short (replay_of journal) ≡ false → number ≡ number_behind highest → IsNumberWith Counts journal number

-- the same, where this is known of the paths beside the DAG file
abbrev pub IsNextNumber : Paths → (path journal : List ℕ) → ℕ → Type 0
IsNextNumber paths path journal number = IsNumberWith (paths.highest path) journal number

-- Why there is no such number where the journal of a round of the DAG file of this path has these bytes: it can't be read; the round was cut short, and its header has a number that no
-- rescue file has; or the system refuses the folder. Or memory ran out.
pub data IsNoNextNumber (path journal : List ℕ) : RunFault → Type 0 where
  journal_unread : (fault : RunFault) → IsUnread journal fault → IsNoNextNumber path journal fault
  bad_number : (found : Found) → replay_of journal ≡ Ok (Some found) → ends_with_finish found.records ≡ false → ¬ (IsFileNumber found.header.next) → IsNoNextNumber path journal (NotThere found.header.next)
  folder_not_seen : (fault : RunFault) → IsRefusalOf (folder_name_of path) fault → IsNoNextNumber path journal fault
