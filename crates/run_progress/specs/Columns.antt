-- The columns of a terminal.
use Rattle.std.specs.Prelude.{ℕ, List, false, unwrap_or}
use Rattle.std.specs.List.{sum_by}
use Rattle.unicode_width.specs.Width.{char_width}

-- What a terminal gives a character: it reads one by one. A control character takes no column.
abbrev pub column_count : ℕ → ℕ
column_count character = unwrap_or (char_width false character) 0

-- what it gives all of these
abbrev pub columns : List ℕ → ℕ
columns characters = sum_by column_count characters
