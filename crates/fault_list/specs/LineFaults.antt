-- All faults of lines of the files of a DAG (docs/MANUAL.md, "All faults of lines").
use Rattle.std.specs.Prelude.{◌≡◌, ◌≢◌, ◌&&◌, ℕ, suc, Bool, true, List, [], ◌∷◌, Option, Some, None}
use Rattle.std.specs.List.{flat_map}
use Rattle.std.specs.Option.{option_map}
use Rattle.splices_flat.specs.Opening.{Files}
use Rattle.splices_flat.specs.FileSet.{bytes_of}
use Rattle.splices_flat.specs.declared.file_set.FileSet.{FileSet}
use Rattle.dag_main_check.specs.Checked.{IsCheckOf, IsCheckFault}
use Rattle.dag_main_check.specs.declared.fault.RunFault.{RunFault}
use Rattle.dag_main_check.specs.declared.fault.RunFault.TheVariants.{Memory}
use Rattle.dag_main_check.specs.declared.form.CheckForm.{CheckForm}
use Rattle.dag_main_check.specs.declared.form.CheckForm.TheVariants.{Line}
use Rattle.dag_main_check.specs.Consoles.{refusal_line}
use Rattle.fault_list.specs.Emptied.{without_line}
use Rattle.fault_list.specs.FaultPlaces.{fault_place, listed_place, is_of_names}

-- A line is empty, with those that continue it. All other lines of its file stay, and all other files.
pub record IsEmptiedAt (files : FileSet) (place : List ℕ × ℕ) (after : FileSet) : Type 0 where
  pub emptied : bytes_of after place.0 ≡ option_map (without_line place.1) (bytes_of files place.0)
  pub others : (other : List ℕ) → other ≢ place.0 → bytes_of after other ≡ bytes_of files other

-- what `check` comes to: it answers, or is refused for a fault other than lack of memory
abbrev pub IsCheckedTo : Files → List ℕ → Option RunFault → Type 0
IsCheckedTo files path None = (text warnings : List ℕ) × (status : ℕ) × IsCheckOf Line files path text warnings status
IsCheckedTo files path (Some fault) = IsCheckFault files path fault × (fault ≢ Memory)

-- nothing more is listed: the files are not refused, or for a fault that names no line, or for one of names where these don't count
abbrev pub EndsList : Bool → Option RunFault → Type 0
EndsList names_count None = Unit {0}
EndsList names_count (Some fault) = listed_place names_count fault ≡ None

-- The faults of lines of these files, at most so many: the first is that for which the files are refused, the next that for which they are refused
-- once its line is empty, and so on. Faults of names count as long as no line is empty for another fault.
pub data AreLineFaults (path : List ℕ) : (names_count : Bool) → (most : ℕ) → FileSet → List RunFault → Type 0 where
  enough : (names_count : Bool) (files : FileSet) → AreLineFaults path names_count 0 files []
  no_more : (names_count : Bool) (most : ℕ) (files : FileSet) (next : Option RunFault) → IsCheckedTo (bytes_of files) path next → EndsList names_count next →
      AreLineFaults path names_count most files []
  one_more : (names_count : Bool) (most : ℕ) (files after : FileSet) (fault : RunFault) (place : List ℕ × ℕ) (others : List RunFault) →
      IsCheckedTo (bytes_of files) path (Some fault) → listed_place names_count fault ≡ Some place → IsEmptiedAt files place after →
      AreLineFaults path (names_count && is_of_names fault) most after others → AreLineFaults path names_count (suc most) files (fault ∷ others)

abbrev pub most_faults : ℕ
most_faults = 100

-- the lines of faults, each as it is displayed where a command is refused for it
abbrev pub fault_lines : List RunFault → List ℕ
fault_lines faults = flat_map refusal_line faults

-- The faults of lines are answered: no text, their lines as warnings, and exit status 125.
pub record ListsLineFaults (files : FileSet) (path text warnings : List ℕ) (status : ℕ) : Type 0 where
  pub first : RunFault
  pub others : List RunFault
  pub are_faults : AreLineFaults path true most_faults files (first ∷ others)
  pub text_is : text ≡ []
  pub warnings_are : warnings ≡ fault_lines (first ∷ others)
  pub status_is : status ≡ 125

-- What `check --all` answers: what `check` does in this form where nothing is wrong, and else the faults of lines.
pub data IsCheckOfAll (form : CheckForm) (files : FileSet) (path text warnings : List ℕ) (status : ℕ) : Type 0 where
  nothing_wrong : IsCheckOf form (bytes_of files) path text warnings status → IsCheckOfAll form files path text warnings status
  lines_wrong : ListsLineFaults files path text warnings status → IsCheckOfAll form files path text warnings status

-- Why it is refused: for a fault of `check` that names no line; lack of memory is one.
pub record IsRefusalOfAll (files : FileSet) (path : List ℕ) (fault : RunFault) : Type 0 where
  pub is_fault : IsCheckFault (bytes_of files) path fault
  pub has_no_line : fault_place fault ≡ None
