-- Texts whose parentheses are balanced.
use Rattle.std.specs.Prelude.{◌≢◌, ℕ, List, [], ◌∷◌, ◌++◌}

-- Each opening parenthesis (40) has its closing one (41) after it, a balanced text between them; there are no others.
pub data Balanced : List ℕ → Type 0 where
  empty : Balanced []
  byte : {rest : List ℕ} (b : ℕ) → b ≢ 40 → b ≢ 41 → Balanced rest → Balanced (b ∷ rest)
  enclosed : {inside rest : List ℕ} → Balanced inside → Balanced rest → Balanced (40 ∷ (inside ++ 41 ∷ rest))
