-- Which rescue files are put away where a round goes back.
use Rattle.std.specs.Prelude.{ℕ, ◌<◌, ◌≤◌, List, All, AllPairs, Contains}
use Rattle.rescue_file.specs.Numbered.{IsFileNumber, rescue_name_of}

-- The numbers above `from` of the rescue files that stand among these names, each once, the highest first.
pub record AreAbove (names : List (List ℕ)) (top : List ℕ) (from : ℕ) (numbers : List ℕ) : Type 0 where
  pub falling : AllPairs (λ number later. later < number) numbers
  pub above : All (λ number. from < number) numbers
  pub named : All IsFileNumber numbers
  pub there : All (λ number. Contains names (rescue_name_of top number)) numbers
  pub all : (number : ℕ) → from < number → number ≤ 999 → Contains names (rescue_name_of top number) → Contains numbers number
