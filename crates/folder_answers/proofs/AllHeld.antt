-- The faults of lines of files that are read where they are held.
use Rattle.std.proofs.Common.{◌≡◌, ℕ, true, List, Some, None, refl}
use Rattle.std.specs.Prelude.{is_some}
use Rattle.splices_flat.specs.Opening.{Files}
use Rattle.splices_flat.specs.FileSet.{bytes_of}
use Rattle.splices_flat.specs.declared.file_set.FileSet.{FileSet}
use Rattle.splices_flat.specs.declared.fault.DagFault.{DagFault}
use Rattle.splices_flat.specs.declared.fault.DagFault.TheVariants as files
use Rattle.run_plan.specs.declared.fault.PlanFault.{PlanFault}
use Rattle.run_plan.specs.declared.fault.PlanFault.TheVariants as plans
use Rattle.dag_main_check.specs.declared.fault.RunFault.{RunFault}
use Rattle.dag_main_check.specs.declared.fault.RunFault.TheVariants.{InFiles, InPlan}
use Rattle.dag_main_files.specs.Beside.{IsInputFault, input_refused, input_had_no_memory}
use Rattle.dag_main_files.specs.Folder.{IsReadFrom}
use Rattle.dag_main_files.specs.Opened.{IsStill, still_missing, asking_had_no_memory}
use Rattle.fault_list.specs.FaultPlaces.{dag_place, plan_place, fault_place}
use Rattle.fault_list.specs.LineFaults.{IsCheckOfAll, nothing_wrong, lines_wrong}
use Rattle.fault_list.proofs.Answers.{first-fault}
use Rattle.folder_answers.specs.Answered.{IsCheckOfAllFrom, held_nothing_wrong, held_lines_wrong}
use Rattle.dag_main_check.specs.declared.form.CheckForm.{CheckForm}
use Rattle.dag_main_check.specs.Missing.{missing_file, missing_submit, missing_in}
use Rattle.dag_main_check.proofs.HeldFiles.{checked, refused}

-- a fault that names a line tells of no file as missing
dag-not-missing : (fault : DagFault) → is_some (dag_place fault) ≡ true → (path : List ℕ) → missing_file fault ≡ Some path → ⊥
dag-not-missing (files.MissingFile file) placed path is = absurd cc
dag-not-missing _ placed path is = absurd cc

submit-not-missing : (fault : PlanFault) → is_some (plan_place fault) ≡ true → (path : List ℕ) → missing_submit fault ≡ Some path → ⊥
submit-not-missing (plans.MissingFile file) placed path is = absurd cc
submit-not-missing _ placed path is = absurd cc

not-missing : (fault : RunFault) → is_some (fault_place fault) ≡ true → (path : List ℕ) → missing_in fault ≡ Some path → ⊥
not-missing (InFiles fault) placed path is = dag-not-missing fault placed path is
not-missing (InPlan fault) placed path is = submit-not-missing fault placed path is
not-missing _ placed path is = absurd cc

-- what is answered of files that are read is answered of those that are held
pub all-held : (form : CheckForm) (holds : Files) (path : List ℕ) (set : FileSet) (text warnings : List ℕ) (status : ℕ) → IsReadFrom holds path set
    → IsCheckOfAll form set path text warnings status → IsCheckOfAllFrom form holds path text warnings status
all-held form holds path set text warnings status read (nothing_wrong is) =
    held_nothing_wrong (checked (bytes_of set) holds read.held form path text warnings status is)
all-held form holds path set text warnings status read (lines_wrong list) =
    let first = first-fault path _ set list.first list.others list.are_faults in
    held_lines_wrong set read list (refused (bytes_of set) holds read.held path list.first (λ file missing. absurd (not-missing list.first first.1 file missing)) first.0)

-- a refusal names no line: of standard input, and where a file is asked for once more
pub input-has-no-line : (path : List ℕ) (fault : RunFault) → IsInputFault path fault → fault_place fault ≡ None
input-has-no-line path fault (input_refused file asked is) = refl
input-has-no-line path fault input_had_no_memory = refl

pub still-has-no-line : (holds : Files) (fault told : RunFault) → fault_place fault ≡ None → IsStill holds fault told → fault_place told ≡ None
still-has-no-line holds fault told none (still_missing missing) = none
still-has-no-line holds fault told none asking_had_no_memory = refl
