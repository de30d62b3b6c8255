-- What `check --all` answers, and why it is refused.
use Rattle.std.proofs.Common.{◌≡◌, ℕ, ◌<◌, true, List, [], ◌∷◌, length, is_some, Result, refl, sym, ap, subst, ◌∙◌, arith}
use Rattle.std.specs.Prelude.{IfErr, IsErrAnd}
use Rattle.splices_flat.specs.declared.file_set.FileSet.{FileSet}
use Rattle.dag_main_check.specs.Checked.{IsCheckFault, checking_had_no_memory}
use Rattle.splices_flat.specs.FileSet.{bytes_of}
use Rattle.fault_list.specs.FaultPlaces.{fault_place}
use Rattle.dag_main_check.specs.declared.fault.RunFault.{RunFault}
use Rattle.dag_main_check.specs.declared.fault.RunFault.TheVariants.{Memory}
use Rattle.dag_main_check.specs.declared.form.CheckForm.{CheckForm}
use Rattle.dag_main_check.proofs.Refusals.{handed-on}
use Rattle.fault_list.specs.LineFaults.{AreLineFaults, one_more, IsCheckOfAll, lines_wrong, IsRefusalOfAll, fault_lines, most_faults}

-- faults of lines were found
pub wrong-lines : (form : CheckForm) (files : FileSet) (path text warnings : List ℕ) (faults : List RunFault) → 0 < length faults → AreLineFaults path true most_faults files faults
    → text ≡ [] → warnings ≡ fault_lines faults → IsCheckOfAll form files path text warnings 125
wrong-lines form files path text warnings [] some are none is = absurd (omega arith)
wrong-lines form files path text warnings (fault ∷ others) some are none is =
    lines_wrong (record { first = fault; others = others; are_faults = are; text_is = none; warnings_are = is; status_is = refl })

-- lack of memory may stop any check
no-memory : (files : FileSet) (path : List ℕ) → IsRefusalOfAll files path Memory
no-memory files path = record { is_fault = checking_had_no_memory; has_no_line = refl }

pub memory-refused : {A : Type 0} (files : FileSet) (path : List ℕ) (given : RunFault) → given ≡ Memory → (r : Result A RunFault) → IsErrAnd r (λ fault. fault ≡ given)
    → IfErr r (IsRefusalOfAll files path)
memory-refused files path given memory r same =
    handed-on (IsRefusalOfAll files path) r same (λ fault is. subst (IsRefusalOfAll files path) (sym memory ∙ sym is) (no-memory files path))

-- the first of them is a fault of `check` that names a line
pub first-fault : (path : List ℕ) (most : ℕ) (files : FileSet) (fault : RunFault) (others : List RunFault) → AreLineFaults path true most files (fault ∷ others)
    → IsCheckFault (bytes_of files) path fault × (is_some (fault_place fault) ≡ true)
first-fault path most files fault others (one_more names left set after one place more checked listed emptied rest) = (checked.0, ap is_some listed)
