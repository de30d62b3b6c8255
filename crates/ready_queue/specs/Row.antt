-- What a row of items has.
use Rattle.std.specs.Prelude.{ℕ, List}

-- the items, and how many more need no memory
pub record Contents (T : Type 0) : Type 0 where
  pub items : List T
  pub room : ℕ
