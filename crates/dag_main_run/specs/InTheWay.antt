-- What is in the way of a round beside its DAG file, so that it is not led.
use Rattle.std.specs.Prelude.{◌≡◌, ◌≢◌, ℕ, true, List, [], ◌∷◌, ◌++◌, Contains, codes}
use Rattle.dag_main_files.specs.declared.rounds.Journaled.TheVariants.{Finished, Unfinished}
use Rattle.dag_main_files.specs.declared.rounds.Round.{Round}
use Rattle.dag_main_files.specs.Beside.{journal_name_of, lock_name_of, IsRefusalOf, IsRescueMoveFault}
use Rattle.dag_main_check.specs.declared.fault.RunFault.{RunFault}
use Rattle.dag_main_check.specs.declared.fault.RunFault.TheVariants.{Memory}

-- what the names have after that of the DAG file of the files by which a manager goes, or into which it writes
abbrev pub own_endings : List (List ℕ)
own_endings = codes ".journal" ∷ codes ".lock" ∷ codes ".children" ∷ codes ".round" ∷ codes ".log" ∷ codes ".scripts" ∷ []

-- one of these files may be another user's, or the journal is no regular file; or memory ran out
pub data IsOwnerFault (top : List ℕ) : RunFault → Type 0 where
  not_own : (ending : List ℕ) (fault : RunFault) → Contains own_endings ending → IsRefusalOf (top ++ ending) fault → IsOwnerFault top fault

-- Processes of an earlier manager are in the way: the system refuses to say which there are; the identifier of the round can't be read; that manager still works; or
-- its processes can't be read, or one of them can't be ended. Or memory ran out.
pub data IsOrphanFault (top : List ℕ) : RunFault → Type 0 where
  not_listed : (fault : RunFault) → IsRefusalOf (codes "/proc") fault → IsOrphanFault top fault
  not_identified : (fault : RunFault) → IsRefusalOf (top ++ codes ".round") fault → IsOrphanFault top fault
  still_works : (fault : RunFault) → IsRefusalOf (lock_name_of top) fault → IsOrphanFault top fault
  still_run : (fault : RunFault) → IsRefusalOf (top ++ codes ".children") fault → IsOrphanFault top fault

-- The journal of a round is not readied. A round that goes back: the rescue files of higher numbers are not put away. One after a finished round: the journal of that is
-- not put away. One that begins: another process has locked the journal that was made. Or memory ran out.
pub data IsReadyFault (top : List ℕ) (round : Round) : RunFault → Type 0 where
  rescues_stay : (fault : RunFault) → round.goes_back ≡ true → IsRescueMoveFault top round.used fault → IsReadyFault top round fault
  journal_stays : (fault : RunFault) → round.journal ≡ Finished → IsRefusalOf (journal_name_of top) fault → IsReadyFault top round fault
  journal_is_locked : (fault : RunFault) → round.journal ≢ Unfinished → IsRefusalOf (lock_name_of top) fault → IsReadyFault top round fault
  readying_had_no_memory : IsReadyFault top round Memory
