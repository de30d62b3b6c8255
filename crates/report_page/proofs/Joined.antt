-- What is added to a text in some steps.
use Rattle.std.proofs.Common.{◌≡◌, ℕ, List, ◌++◌, append_assoc, ◌∙◌}

-- one part, and then others
pub joined : (old one now a b : List ℕ) → one ≡ old ++ a → now ≡ one ++ b → now ≡ old ++ (a ++ b)
joined old one now a b first rest = rest ∙ (λ j. first j ++ b) ∙ append_assoc old a b
