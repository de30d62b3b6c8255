-- What `check` answers, with hints and without.
use Rattle.std.proofs.Common.{◌≡◌, ◌⊎◌, ◌++◌, ℕ, Bool, true, false, List, Result, Ok, Err, IfOk, inl, inr, refl, string_bytes, sym, subst}
use Rattle.dag_main_check.specs.declared.fault.RunFault.{RunFault}
use Rattle.dag_main_check.specs.declared.warnings.Answer.{Answer}
use Rattle.dag_main_check.specs.declared.form.CheckForm.{CheckForm}
use Rattle.splices_flat.specs.Opening.{Files}
use Rattle.splices_flat.specs.FileSet.{bytes_of}
use Rattle.splices_flat.specs.declared.file_set.FileSet.{FileSet}
use Rattle.dag_main_files.specs.Folder.{IsReadFrom}
use Rattle.dag_main_check.proofs.HeldFiles.{checked}
use Rattle.dagrun.specs.Answered.{Said, IsCheckWith, without_hints, with_hints, checks_in, checks_from, all_of_held_files, all_of_files_read_once}

-- what is said of an answer
abbrev pub IsAnswer : Said → Bool → Answer → Type 0
IsAnswer Checked hinted answer = IsCheckWith Checked hinted (string_bytes answer.text) (string_bytes answer.warnings) answer.status

abbrev pub IsPlain : Said → Answer → Type 0
IsPlain Checked answer = Checked (string_bytes answer.text) (string_bytes answer.warnings) answer.status

-- a check of the files that are held
pub at_once : (all : Bool) (form : CheckForm) (hinted : Bool) (holds : Files) (path : List ℕ) (r : Result Answer RunFault) → IfOk r (IsPlain (checks_in all form holds path))
    → IfOk r (IsPlain (checks_from all form hinted holds path))
at_once false form hinted holds path r is = is
at_once true form hinted holds path (Ok answer) is = all_of_held_files is
at_once true form hinted holds path (Err fault) is = tt

-- a check of files that were read once
pub read_once : (all : Bool) (form : CheckForm) (files : FileSet) (holds : Files) (path : List ℕ) → IsReadFrom holds path files → (text warnings : List ℕ) (status : ℕ)
    → checks_in all form (bytes_of files) path text warnings status → checks_from all form true holds path text warnings status
read_once false form files holds path read text warnings status is = checked (bytes_of files) holds read.held form path text warnings status is
read_once true form files holds path read text warnings status is = all_of_files_read_once files refl read is

-- without hints
pub plain_check : (Checked : Said) (hinted : Bool) (r : Result Answer RunFault) → IfOk r (IsPlain Checked) → IfOk r (IsAnswer Checked hinted)
plain_check Checked hinted (Ok answer) is = without_hints _ _ is
plain_check Checked hinted (Err fault) is = tt

-- an answer with hints after its warnings
behind : (Checked : Said) (text warnings hints all : List ℕ) (status : ℕ) → Checked text warnings status → (all ≡ warnings ++ hints) ⊎ (all ≡ warnings) → IsCheckWith Checked true text all status
behind Checked text warnings hints all status is (inl more) = subst (λ (w : List ℕ). IsCheckWith Checked true text w status) (sym more) (with_hints warnings hints status refl is)
behind Checked text warnings hints all status is (inr same) = subst (λ (w : List ℕ). IsCheckWith Checked true text w status) (sym same) (without_hints warnings status is)

pub hints_behind : (Checked : Said) (plain hinted : Answer) (hints : List ℕ) → IsPlain Checked plain → string_bytes hinted.text ≡ string_bytes plain.text → hinted.status ≡ plain.status
    → (string_bytes hinted.warnings ≡ string_bytes plain.warnings ++ hints) ⊎ (string_bytes hinted.warnings ≡ string_bytes plain.warnings) → IsAnswer Checked true hinted
hints_behind Checked plain hinted hints is text status more =
    let told = behind Checked (string_bytes plain.text) (string_bytes plain.warnings) hints (string_bytes hinted.warnings) plain.status is more in
    let texts = subst (λ (t : List ℕ). IsCheckWith Checked true t (string_bytes hinted.warnings) plain.status) (sym text) told in
    subst (λ (s : ℕ). IsCheckWith Checked true (string_bytes hinted.text) (string_bytes hinted.warnings) s) (sym status) texts
