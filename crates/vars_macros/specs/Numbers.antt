-- Texts that are the same but for numbers, and what smaller numbers change.
use Rattle.std.specs.Prelude.{◌≡◌, ℕ, ◌<◌, ◌≤◌, true, List, [], ◌∷◌, ◌++◌, length}
use Rattle.std.specs.List.{AllZip}
use Rattle.std.specs.Str.{all_ascii_digits}
use Rattle.vars_macros.specs.Meaning.{MacroScope}
use Rattle.vars_macros.specs.Expansion.{Expansion}

-- ASCII digits, at least one
pub record IsDecimal (text : List ℕ) : Type 0 where
  pub some : 0 < length text
  pub digits : all_ascii_digits text ≡ true

-- two texts that are the same but for numbers, each of any length
pub data DifferInNumbers : List ℕ → List ℕ → Type 0 where
  ends : DifferInNumbers [] []
  byte : {x y : List ℕ} (b : ℕ) → DifferInNumbers x y → DifferInNumbers (b ∷ x) (b ∷ y)
  numbers : {x y : List ℕ} (d e : List ℕ) → IsDecimal d → IsDecimal e → DifferInNumbers x y → DifferInNumbers (d ++ x) (e ++ y)

-- as many texts, each the same but for numbers
abbrev pub AllDifferInNumbers : List (List ℕ) → List (List ℕ) → Type 0
AllDifferInNumbers xs ys = AllZip DifferInNumbers xs ys

-- both are numbers, and the first is not written longer
pub record IsNoLongerNumber (small big : List ℕ) : Type 0 where
  pub small_number : IsDecimal small
  pub big_number : IsDecimal big
  pub no_longer : length small ≤ length big

-- The same is assigned and the job is the same; the numbers of the attempt and of the launch are not written longer.
pub record HasLesserNumbers (small big : MacroScope) : Type 0 where
  pub assigned : small.assigned ≡ big.assigned
  pub job : small.job ≡ big.job
  pub retry : IsNoLongerNumber small.retry big.retry
  pub launch : IsNoLongerNumber small.launch big.launch

-- An expansion that is the same but for numbers, and not longer.
pub record IsLesserExpansion (small big : Expansion) : Type 0 where
  pub text : DifferInNumbers big.text small.text
  pub no_longer : length small.text ≤ length big.text
  pub whole_run : small.whole_run ≡ big.whole_run
