-- A text in which a line is empty.
use Rattle.std.specs.Prelude.{ℕ, zero, suc, ◌-◌, ◌==◌, ◌||◌, Bool, List, [], ◌∷◌, codes, if◌then◌else◌}
use Rattle.std.specs.List.{ends_with, slice_split, join_with_byte}

-- A backslash at its end continues a line, also one before a carriage return.
abbrev pub goes_on_below : List ℕ → Bool
goes_on_below line = ends_with (λ a b. a == b) line (codes "\\") || ends_with (λ a b. a == b) line (codes "\\\r")

-- The lines, in which the one below so many others is empty, and with it those that continue it. All others stay.
abbrev pub lines_emptied : ℕ → List (List ℕ) → List (List ℕ)
lines_emptied above [] = []
lines_emptied zero (line ∷ lines) = [] ∷ (if goes_on_below line then lines_emptied zero lines else lines)
lines_emptied (suc above) (line ∷ lines) = line ∷ lines_emptied above lines

-- the lines of a text, which is cut at line feeds (10)
abbrev pub lines_in : List ℕ → List (List ℕ)
lines_in text = slice_split (λ byte. byte == 10) text

-- The text in which the line of this number, from 1, is empty.
abbrev pub without_line : ℕ → List ℕ → List ℕ
without_line number text = join_with_byte 10 (lines_emptied (number - 1) (lines_in text))
