-- The files of a folder as a round saw them when it began.
use Rattle.std.specs.Global.{Global}
use Rattle.std.specs.Prelude.{◌≡◌, ◌≢◌, ◌<◌, ℕ, true, false, nat_eq, List, length, Option, Some, None, String, string_bytes, slice_range, if◌then◌else◌}
use Rattle.std.specs.List.{starts_with}
use Rattle.std.specs.Str.{bytes_eq}
use Rattle.splices_flat.specs.Opening.{Files}
use Rattle.splices_flat.specs.FileSet.{bytes_of, entries_of}
use Rattle.event_journal_log.specs.declared.fault.JournalFault.TheVariants as journal
use Rattle.recovery_manager.specs.declared.fault.ManagerFault.TheVariants as manager
use Rattle.dag_main_check.specs.declared.fault.RunFault.{RunFault}
use Rattle.dag_main_check.specs.declared.fault.RunFault.TheVariants.{InManager, FileRefused, Memory}
use Rattle.dag_main_files.specs.Beside.{IsRefusalOf, journal_name_of}
use Rattle.round_inputs.specs.declared.begun.Begun.{Begun}
use Rattle.round_inputs.specs.declared.as_begun.ByFiles.{ByFiles}
use Rattle.round_inputs.specs.declared.as_begun.ByFiles.TheVariants.{AsTheyAre, AsItBegan, AsKept}
use Rattle.round_inputs.specs.declared.as_begun.NotKnown.{NotKnown}
use Rattle.round_inputs.specs.declared.as_begun.NotKnown.TheVariants.{NothingKept, Refused}
use Rattle.round_inputs.specs.Begun.{begun_name_of, begun_head, begun_text_of, rescue_kept}

-- the first of two, where it is there, else the second
abbrev pub first_there : Option (List ℕ) → Option (List ℕ) → Option (List ℕ)
first_there None other = other
first_there (Some bytes) other = Some bytes

-- the rescue file that is kept, at its path
abbrev pub rescue_at : Option (List ℕ × List ℕ) → List ℕ → Option (List ℕ)
rescue_at None path = None
rescue_at (Some file) path = if bytes_eq file.0 path then Some file.1 else None

-- the file of this path that is kept: one of the set, or the rescue file
abbrev pub kept_at : Begun → Files
kept_at begun path = first_there (bytes_of begun.files path) (rescue_at (rescue_kept begun.rescue) path)

-- the same, where it may be that nothing is kept
abbrev pub kept_in : Option Begun → Files
kept_in None path = None
kept_in (Some begun) path = kept_at begun path

-- The files as the round saw them: those that are kept; and all others as they are held.
abbrev pub as_begun : Option Begun → Files → Files
as_begun begun holds path = first_there (kept_in begun path) (holds path)

-- the digest in the header of a journal
abbrev pub digest_at : List ℕ → List ℕ
digest_at journal = slice_range journal 8 40

-- The file beside a DAG file keeps what its last round was begun with: it is spelled so, and its digest is that of the journal.
pub record IsBegunRound (holds : Files) (path : List ℕ) (begun : Begun) : Type 0 where
  pub kept : holds (begun_name_of path) ≡ Some (begun_text_of begun.digest (entries_of begun.files) (rescue_kept begun.rescue))
  pub journal : List ℕ
  pub journal_is : holds (journal_name_of path) ≡ Some journal
  pub same : begun.digest ≡ digest_at journal

-- the files are others than those with which the last round began (J5)
abbrev pub other_inputs : RunFault
other_inputs = InManager (manager.Journal journal.OtherInputs)

-- no journal can be read, or it is too short for a header
abbrev pub HasNoHeader : Option (List ℕ) → Type 0
HasNoHeader None = Unit {0}
HasNoHeader (Some journal) = length journal < 40

-- the fault by which the file of a path is refused
pub data IsFileOf (path : List ℕ) : RunFault → Type 0 where
  file_of : (file : String Global) → string_bytes file ≡ path → IsFileOf path (FileRefused file)

-- Why the bytes of the file of this path don't say with what the round of this journal was begun. Nothing is kept of it: they keep another round, as the digest
-- says; or they are not spelled so, and don't begin as this round's. Or what is kept is refused: they begin as this round's, and are not spelled so; memory ran out.
pub data IsNotOf (path journal bytes : List ℕ) : NotKnown → Type 0 where
  of_another_round : (begun : Begun) → begun_text_of begun.digest (entries_of begun.files) (rescue_kept begun.rescue) ≡ bytes → begun.digest ≢ digest_at journal →
      IsNotOf path journal bytes (NothingKept other_inputs)
  of_another_kind : (fault : RunFault) → IsFileOf path fault → starts_with nat_eq bytes (begun_head (digest_at journal)) ≡ false →
      IsNotOf path journal bytes (NothingKept fault)
  not_as_written : (fault : RunFault) → IsFileOf path fault → starts_with nat_eq bytes (begun_head (digest_at journal)) ≡ true →
      IsNotOf path journal bytes (Refused fault)
  spelling_had_no_memory : IsNotOf path journal bytes (Refused Memory)

-- Why it is not known with what the last round of a DAG file was begun, where these files are held: there is no journal with a header; no file keeps a round; or
-- the one that does is not of this round. Or memory ran out.
pub data IsNotKnown (holds : Files) (path : List ℕ) : NotKnown → Type 0 where
  no_journal : (fault : RunFault) → IsFileOf (journal_name_of path) fault → HasNoHeader (holds (journal_name_of path)) → IsNotKnown holds path (NothingKept fault)
  no_file : (fault : RunFault) → IsFileOf (begun_name_of path) fault → holds (begun_name_of path) ≡ None → IsNotKnown holds path (NothingKept fault)
  not_of_it : (journal bytes : List ℕ) (why : NotKnown) → holds (journal_name_of path) ≡ Some journal → holds (begun_name_of path) ≡ Some bytes →
      IsNotOf (begun_name_of path) journal bytes why → IsNotKnown holds path why
  looking_had_no_memory : IsNotKnown holds path (Refused Memory)

-- the fault of that
abbrev pub cause_of : NotKnown → RunFault
cause_of (NothingKept fault) = fault
cause_of (Refused fault) = fault

-- The files by which the last round of a DAG file is shown, where these are held, as far as others are kept: the files as they are; those with which it began; or
-- those, if they are kept, else the files as they are.
pub data IsSeenBy (holds : Files) (path : List ℕ) : ByFiles → Option Begun → Type 0 where
  seen_as_they_are : IsSeenBy holds path AsTheyAre None
  seen_as_it_began : (begun : Begun) → IsBegunRound holds path begun → IsSeenBy holds path AsItBegan (Some begun)
  seen_as_kept : (begun : Begun) → IsBegunRound holds path begun → IsSeenBy holds path AsKept (Some begun)
  nothing_is_kept : (fault : RunFault) → IsNotKnown holds path (NothingKept fault) → IsSeenBy holds path AsKept None

-- Why it is not shown so: it is not known with what it began; or what is kept is refused.
pub data IsNotSeenBy (holds : Files) (path : List ℕ) : ByFiles → RunFault → Type 0 where
  not_as_it_began : (why : NotKnown) → IsNotKnown holds path why → IsNotSeenBy holds path AsItBegan (cause_of why)
  not_as_kept : (fault : RunFault) → IsNotKnown holds path (Refused fault) → IsNotSeenBy holds path AsKept fault

-- The same of some files: the journal, or the file that keeps the round, is refused; or it is of another round.
pub data IsNotBegun (path : List ℕ) : RunFault → Type 0 where
  journal_refused : (fault : RunFault) → IsRefusalOf (journal_name_of path) fault → IsNotBegun path fault
  begun_refused : (fault : RunFault) → IsRefusalOf (begun_name_of path) fault → IsNotBegun path fault
  begun_of_another_round : IsNotBegun path other_inputs
