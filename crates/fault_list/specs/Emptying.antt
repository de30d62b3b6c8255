-- How the lines of a text are gone over, one of which is emptied.
use Rattle.std.specs.Prelude.{ℕ, List, [], ◌∷◌, ◌++◌, if◌then◌else◌}
use Rattle.fault_list.specs.declared.emptying.Emptying.{Emptying}
use Rattle.fault_list.specs.Emptied.{lines_emptied}

-- a line with its line feed
abbrev pub with_line_feed : List ℕ → List ℕ
with_line_feed line = line ++ 10 ∷ []

-- what the lines below become
abbrev pub left_by : Emptying → List (List ℕ) → List (List ℕ)
left_by emptying lines = if emptying.is_over then lines else lines_emptied emptying.above lines
