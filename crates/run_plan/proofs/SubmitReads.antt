-- A submit file's assignments, or its fault.
use Rattle.std.proofs.Common.{◌≡◌, ◌≢◌, ◌⊎◌, inl, inr, ℕ, Bool, true, false, List, Option, Some, Result, Ok, Err, refl, sym, ap, subst, ◌∙◌, if◌then◌else◌}
use Rattle.std.specs.Str.{IsUtf8, is_utf8}
use Rattle.std.proofs.lemmas.Bool.{false≢true}
use Rattle.std.proofs.lemmas.Str.{IsUtf8-from_is_utf8, is_utf8-from_IsUtf8}
use Rattle.submit_file.specs.Submit.{Gives, Fails, submit_of}
use Rattle.submit_file.specs.declared.submit.Assignment.{Assignment}
use Rattle.submit_file.specs.declared.submit.Submit.{Submit}
use Rattle.submit_file.specs.declared.fault.SubmitFault.{SubmitFault}
use Rattle.submit_file.specs.declared.fault.SubmitFault.TheVariants.{NotText, NoQueue, InLine, Memory}
use Rattle.run_plan.specs.declared.fault.PlanFault.{PlanFault}
use Rattle.run_plan.specs.declared.fault.PlanFault.TheVariants as plan
use Rattle.run_plan.specs.declared.fault.PlanFault.TheVariants.{InSubmit}
use Rattle.run_plan.specs.PlanAnswers as answers
use Rattle.run_plan.specs.Submitted.{submit_in, submit_at, in_submit}

-- What was read is what the bytes say.
pub reads : (bytes : List ℕ) (answer : Result Submit SubmitFault) → (IsUtf8 bytes → Gives (λ (s : Submit). s.assigned.items) answer (submit_of bytes))
    → (¬ (IsUtf8 bytes) → answer ≡ Err NotText) → Gives (λ (s : Submit). s.assigned.items) answer (submit_in bytes)
reads bytes answer exact not_text = go (is_utf8 bytes) refl
  where
    go : (b : Bool) → is_utf8 bytes ≡ b → Gives (λ (s : Submit). s.assigned.items) answer (if b then submit_of bytes else Err NotText)
    go true e = exact (IsUtf8-from_is_utf8 bytes e)
    go false e = subst (λ (a : Result Submit SubmitFault). Gives (λ (s : Submit). s.assigned.items) a (Err NotText)) (sym (not_text (λ u. false≢true (sym e ∙ is_utf8-from_IsUtf8 bytes u)))) refl

pub submitted : (path bytes : List ℕ) (file : Option (List ℕ)) (items : List Assignment) → file ≡ Some bytes → submit_in bytes ≡ Ok items → submit_at path file ≡ Ok items
submitted path bytes file items file_is says = ap (submit_at path) file_is ∙ ap (in_submit path) says

failed : {Y : Type 0} (fault : SubmitFault) (answer : Result Y SubmitFault) → fault ≢ Memory → Fails fault answer → answer ≡ Err fault
failed NotText answer not says = says
failed NoQueue answer not says = says
failed (InLine number line) answer not says = says
failed Memory answer not says = absurd (not refl)

pub refused : (path bytes : List ℕ) (file : Option (List ℕ)) (fault : SubmitFault) (given : PlanFault) → file ≡ Some bytes → Fails fault (submit_in bytes)
    → (given ≡ plan.Memory) ⊎ ((fault ≢ Memory) × (given ≡ InSubmit path fault)) → answers.Fails given (submit_at path file)
refused path bytes file fault given file_is says (inl is) = subst (λ (g : PlanFault). answers.Fails g (submit_at path file)) (sym is) tt
refused path bytes file fault given file_is says (inr is) =
    subst (λ (g : PlanFault). answers.Fails g (submit_at path file)) (sym is.1)
    (ap (submit_at path) file_is ∙ ap (in_submit path) (failed fault (submit_in bytes) is.0 says))
