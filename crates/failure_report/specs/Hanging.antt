-- How what is reported of a node is indented.
use Rattle.std.specs.Prelude.{ℕ, List, ◌++◌, codes}
use Rattle.std.specs.Str.Lines.{lines}
use Rattle.std.specs.List.{join_by}

-- a text whose lines after the first are indented by four blanks
abbrev pub hung : List ℕ → List ℕ
hung text = join_by (λ line. line) (codes "\n    ") (lines text) ++ codes "\n"
