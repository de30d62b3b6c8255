-- What is answered of a round that is not salvaged.
use Rattle.std.proofs.Common.{◌≡◌, ◌++◌, ℕ, List, [], Option, Some, None, Result, Ok, Err, IfOk, IfSome, IsTrue, is_some, codes, string_bytes, refl, sym, subst}
use Rattle.std.proofs.lemmas.Bool.{false≢true}
use Rattle.dag_main_check.specs.declared.fault.RunFault.{RunFault}
use Rattle.dag_main_check.specs.declared.warnings.Answer.{Answer}
use Rattle.salvage.specs.Faults.{fault_text}
use Rattle.salvage.specs.declared.fault.SalvageFault.{SalvageFault}
use Rattle.dagrun.specs.Answered.{Said, IsSalvageWith, not_salvaged}

-- what holds of a text that is there
some-text : (text : Option (List ℕ)) (P : List ℕ → Type 0) → IsTrue (is_some text) → IfSome text P → (line : List ℕ) × (text ≡ Some line) × P line
some-text (Some line) P is holds = (line, refl, holds)
some-text None P is holds = absurd (false≢true is)

-- the line of a cause that no other command has
pub line-warned : (Salvaged : Said) (NotSalvaged : SalvageFault → Type 0) (fault : SalvageFault) (result : Result Answer RunFault) → NotSalvaged fault
    → IsTrue (is_some (fault_text fault))
    → IfOk result (λ (a : Answer). IfSome (fault_text fault) (λ (line : List ℕ). string_bytes a.warnings ≡ codes "dagrun: " ++ (line ++ codes "\n")))
    → IfOk result (λ (a : Answer). string_bytes a.text ≡ []) → IfOk result (λ (a : Answer). a.status ≡ 125)
    → IfOk result (λ (a : Answer). IsSalvageWith Salvaged NotSalvaged (string_bytes a.text) (string_bytes a.warnings) a.status)
line-warned Salvaged NotSalvaged fault (Ok a) is own warned text status =
    subst (λ (t : List ℕ). IsSalvageWith Salvaged NotSalvaged t (string_bytes a.warnings) a.status) (sym text)
    (subst (λ (s : ℕ). IsSalvageWith Salvaged NotSalvaged [] (string_bytes a.warnings) s) (sym status)
    (not_salvaged fault (string_bytes a.warnings) is
    (some-text (fault_text fault) (λ (line : List ℕ). string_bytes a.warnings ≡ codes "dagrun: " ++ (line ++ codes "\n")) own warned)))
line-warned Salvaged NotSalvaged fault (Err e) is own warned text status = tt
