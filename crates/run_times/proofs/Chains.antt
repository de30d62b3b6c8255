-- Texts that are added one after another.
use Rattle.std.proofs.Common.{◌≡◌, List, ◌++◌, ℕ, append_assoc, Result, Ok, Err, ap, ◌∙◌}
use Rattle.std.specs.Prelude.{OnOk}

-- one text is added, and the rest after it
pub added : (old a rest : List ℕ) {mid new : List ℕ} → mid ≡ old ++ a → new ≡ mid ++ rest → new ≡ old ++ (a ++ rest)
added old a rest first then = then ∙ ap (λ (text : List ℕ). text ++ rest) first ∙ append_assoc old a rest

pub on-ok : {A E : Type 0} (r : Result A E) {P Q : Type 0} → (P → Q) → OnOk r P → OnOk r Q
on-ok (Ok x) follows holds = follows holds
on-ok (Err e) follows holds = holds
