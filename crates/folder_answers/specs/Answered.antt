-- What `check`, `check --all` and `rehearse` answer of the files of a folder, and why they are refused.
use Rattle.std.specs.Prelude.{ℕ, Bool, List, Option}
use Rattle.splices_flat.specs.Opening.{Files}
use Rattle.splices_flat.specs.FileSet.{bytes_of}
use Rattle.splices_flat.specs.declared.file_set.FileSet.{FileSet}
use Rattle.throttles.specs.declared.Limits.{Limits}
use Rattle.dag_main_check.specs.declared.fault.RunFault.{RunFault}
use Rattle.dag_main_check.specs.declared.form.CheckForm.{CheckForm}
use Rattle.dag_main_check.specs.Checked.{IsCheckOf, IsCheckFault}
use Rattle.dag_main_files.specs.Beside.{IsInputFault}
use Rattle.dag_main_files.specs.Folder.{IsReadFrom}
use Rattle.dag_main_rehearse.specs.Rehearsed.{IsRehearsalOf, IsRehearsalFault}
use Rattle.fault_list.specs.LineFaults.{IsCheckOfAll, ListsLineFaults}

-- what `check` answers in a form, of some files of the path
abbrev pub IsCheckOfSome : (form : CheckForm) → (path text warnings : List ℕ) → (status : ℕ) → Type 0
IsCheckOfSome form path text warnings status = (files : FileSet) × IsCheckOf form (bytes_of files) path text warnings status

-- Why it is refused where these files are held, with `--all` too: standard input can't be read, or memory ran out; or for what the files say.
pub data IsCheckRefusalFrom (holds : Files) (path : List ℕ) : RunFault → Type 0 where
  held_not_read : (fault : RunFault) → IsInputFault path fault → IsCheckRefusalFrom holds path fault
  held_not_checked : (fault : RunFault) → IsCheckFault holds path fault → IsCheckRefusalFrom holds path fault

-- the same of some files
abbrev pub IsCheckRefusal : (path : List ℕ) → RunFault → Type 0
IsCheckRefusal path fault = (holds : Files) × IsCheckRefusalFrom holds path fault

-- what `check --all` answers in a form, of some files of the path
abbrev pub IsCheckOfAllSome : (form : CheckForm) → (path text warnings : List ℕ) → (status : ℕ) → Type 0
IsCheckOfAllSome form path text warnings status = (files : FileSet) × IsCheckOfAll form files path text warnings status

-- The same where these files are held: what `check` answers for what they say; or the faults of lines of those that were read, the first of which is
-- that of what they say.
pub data IsCheckOfAllFrom (form : CheckForm) (holds : Files) (path text warnings : List ℕ) (status : ℕ) : Type 0 where
  held_nothing_wrong : IsCheckOf form holds path text warnings status → IsCheckOfAllFrom form holds path text warnings status
  held_lines_wrong : (files : FileSet) → IsReadFrom holds path files → (list : ListsLineFaults files path text warnings status) →
      IsCheckFault holds path list.first → IsCheckOfAllFrom form holds path text warnings status

-- what `rehearse` answers, of some files of the path
abbrev pub IsRehearsalOfSome : (always_post : Bool) → (path : List ℕ) → (table : Option (List ℕ)) → Limits → (text warnings : List ℕ) → (status : ℕ) → Type 0
IsRehearsalOfSome always_post path table limits text warnings status =
    (files : FileSet) × IsRehearsalOf always_post (bytes_of files) path table limits text warnings status

-- Why it is refused where these files are held: standard input is, or memory ran out; or for what the files and the table say.
pub data IsRehearsalRefusalFrom (always_post : Bool) (holds : Files) (path : List ℕ) (table : Option (List ℕ)) (limits : Limits) : RunFault → Type 0 where
  held_input_not_read : (fault : RunFault) → IsInputFault path fault → IsRehearsalRefusalFrom always_post holds path table limits fault
  held_not_rehearsed : (fault : RunFault) → IsRehearsalFault always_post holds path table limits fault → IsRehearsalRefusalFrom always_post holds path table limits fault

-- the same of some files
abbrev pub IsRehearsalRefusal : (always_post : Bool) → (path : List ℕ) → (table : Option (List ℕ)) → Limits → RunFault → Type 0
IsRehearsalRefusal always_post path table limits fault = (holds : Files) × IsRehearsalRefusalFrom always_post holds path table limits fault
