-- Numbers of names.
use Rattle.std.specs.Prelude.{◌≡◌, ℕ, ◌<◌, List, Option, Some}

-- No two names have one number, and all numbers are below this one.
pub record NumbersAreApart (number : List ℕ → Option ℕ) (count : ℕ) : Type 0 where
  pub within : (key : List ℕ) (n : ℕ) → number key ≡ Some n → n < count
  pub apart : (a b : List ℕ) (n : ℕ) → number a ≡ Some n → number b ≡ Some n → a ≡ b
