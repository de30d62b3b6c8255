-- What a round was begun with that is another one now.
use Rattle.std.specs.Prelude.{◌≡◌, ◌≢◌, ℕ, List, ◌∷◌, ◌++◌, Some, None, All}
use Rattle.sha2.specs.Sha256.{sha256}
use Rattle.splices_flat.specs.FileSet.{entries_of}
use Rattle.splices_flat.specs.declared.file_set.FileSet.{FileSet}
use Rattle.rescue_file.specs.Numbered.{rescue_name_of}
use Rattle.dag_main_check.specs.declared.fault.RunFault.{RunFault}
use Rattle.dag_main_check.specs.declared.fault.RunFault.TheVariants.{Memory}
use Rattle.salvage.specs.Round.{sum_in, IsSame}
use Rattle.salvage.specs.Sight.{Sight}
use Rattle.round_inputs.specs.declared.inputs.Listed.{Listed}
use Rattle.salvage.specs.declared.fault.SalvageFault.{SalvageFault}
use Rattle.salvage.specs.declared.fault.SalvageFault.TheVariants.{Refused, Changed, NotListed}

-- A file of this path and these bytes is not one that the round was begun with: it is not in its list; its list has another sum for the path
-- than that of the bytes. Or memory ran out.
pub data IsOtherFile (listed : List Listed) (file : List ℕ × List ℕ) : SalvageFault → Type 0 where
  not_listed : sum_in listed file.0 ≡ None → IsOtherFile listed file (NotListed file.0)
  changed : (sum : List ℕ) → sum_in listed file.0 ≡ Some sum → sum ≢ sha256 file.1 → IsOtherFile listed file (Changed file.0)
  comparing_had_no_memory : IsOtherFile listed file (Refused Memory)

-- it is so of the first of some files that is not as it was when the round began
pub record IsFirstOther (listed : List Listed) (files : List (List ℕ × List ℕ)) (fault : SalvageFault) : Type 0 where
  pub before : List (List ℕ × List ℕ)
  pub file : List ℕ × List ℕ
  pub behind : List (List ℕ × List ℕ)
  pub stand : files ≡ before ++ file ∷ behind
  pub same : All (IsSame listed) before
  pub other : IsOtherFile listed file fault

-- Why the rescue file of this number, which the round read, is not the one that it was: it is missing, and is in the list; it is another one; or
-- the system refuses it.
pub data IsOtherRescue (sight : Sight) (listed : List Listed) (top : List ℕ) (used : ℕ) : SalvageFault → Type 0 where
  rescue_missing : (sum : List ℕ) → used ≢ 0 → sight.lacks (rescue_name_of top used) → sum_in listed (rescue_name_of top used) ≡ Some sum →
      IsOtherRescue sight listed top used (Changed (rescue_name_of top used))
  rescue_changed : (bytes : List ℕ) (fault : SalvageFault) → used ≢ 0 → sight.has (rescue_name_of top used) bytes →
      IsOtherFile listed (rescue_name_of top used, bytes) fault → IsOtherRescue sight listed top used fault
  rescue_refused : (fault : RunFault) → sight.refuses (rescue_name_of top used) fault → IsOtherRescue sight listed top used (Refused fault)

-- Why a round is not as it was, the first cause first: a DAG file is not, or else the rescue file that it read.
pub data IsOther (sight : Sight) (listed : List Listed) (top : List ℕ) (used : ℕ) (files : FileSet) : SalvageFault → Type 0 where
  other_file : (fault : SalvageFault) → IsFirstOther listed (entries_of files) fault → IsOther sight listed top used files fault
  other_marks : (fault : SalvageFault) → All (IsSame listed) (entries_of files) → IsOtherRescue sight listed top used fault →
      IsOther sight listed top used files fault
