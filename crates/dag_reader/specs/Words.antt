-- The words of a line with their places.
use Rattle.std.specs.Prelude.{◌≡◌, ℕ, ◌+◌, ◌<◌, ◌≤◌, Bool, not, ◌||◌, ◌==◌, List, [], ◌∷◌, length, slice_index}
use Rattle.std.specs.List.{slice_split}
use Rattle.dag_reader.specs.Word.{PlacedText}

abbrev pub is_blank : ℕ → Bool
is_blank b = b == 32 || b == 9

-- the parts between blanks that are not empty, of which the first begins at place `at`
abbrev pub words_of_parts : ℕ → ℕ → List (List ℕ) → List PlacedText
words_of_parts line at [] = []
words_of_parts line at ([] ∷ parts) = words_of_parts line (at + 1) parts
words_of_parts line at ((b ∷ bs) ∷ parts) =
    let stop = at + length (b ∷ bs) in
    record { text = b ∷ bs; span = record { line = line; start = at; stop = stop } } ∷ words_of_parts line (stop + 1) parts

-- the words of the bytes from place `at` on, of a line with this number
unfoldable pub words : ℕ → ℕ → List ℕ → List PlacedText
words line at bytes = words_of_parts line at (slice_split is_blank bytes)

-- the last of some words, the first of which is this one
abbrev pub last_of : PlacedText → List PlacedText → PlacedText
last_of w [] = w
last_of w (v ∷ vs) = last_of v vs

-- From place `at` up to `end` there are only blanks, or none at all, and then the line ends or the other kind follows.
pub record RunEnds (blank : Bool) (bytes : List ℕ) (at end : ℕ) : Type 0 where
  pub from : at ≤ end
  pub within : end ≤ length bytes
  pub run : (k : ℕ) → at ≤ k → k < end → is_blank (slice_index bytes k) ≡ blank
  pub stops : end < length bytes → is_blank (slice_index bytes end) ≡ not blank
