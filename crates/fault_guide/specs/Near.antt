-- The word that somebody may have meant.
use Rattle.std.specs.Prelude.{◌≡◌, ◌+◌, ◌/◌, ◌<◌, ◌≤◌, ℕ, List, ◌∷◌, ◌++◌, length, min, Option, Some, None, All, chars}
use Rattle.strsim.specs.Edits.{osa_table}

-- How many edits lead from a word to another one: a letter is put in, left out or another one, or two neighbours are swapped, and no letter is
-- edited twice.
abbrev pub edits_between : List ℕ → List ℕ → ℕ
edits_between word other = (osa_table (chars word) (chars other)).last_row (length (chars other))

-- how many edits there may be: one for three bytes of the word, and at most three
abbrev pub most_edits : List ℕ → ℕ
most_edits word = min 3 (length word / 3)

-- a word is near another one: no more edits lead to it, and no more bytes are in one of them alone
pub record IsNear (word other : List ℕ) : Type 0 where
  pub few : edits_between word other ≤ most_edits word
  pub no_longer : length other ≤ length word + most_edits word
  pub no_shorter : length word ≤ length other + most_edits word

-- another word is farther away than this one, or is not near at all; and so, or is as far away
abbrev pub IsFarther : (word found : List ℕ) → List ℕ → Type 0
IsFarther word found other = IsNear word other → edits_between word found < edits_between word other

abbrev pub IsNoNearer : (word found : List ℕ) → List ℕ → Type 0
IsNoNearer word found other = IsNear word other → edits_between word found ≤ edits_between word other

-- it is the nearest of some words, and the first of several
pub record IsFirstNearest (word : List ℕ) (words : List (List ℕ)) (found : List ℕ) : Type 0 where
  pub before : List (List ℕ)
  pub behind : List (List ℕ)
  pub stands : words ≡ before ++ found ∷ behind
  pub near : IsNear word found
  pub farther : All (IsFarther word found) before
  pub no_nearer : All (IsNoNearer word found) behind

-- The one of some words that is nearest to a word, the first of several; none where none is near.
abbrev pub IsNearest : List ℕ → List (List ℕ) → Option (List ℕ) → Type 0
IsNearest word words None = All (λ other. ¬ (IsNear word other)) words
IsNearest word words (Some found) = IsFirstNearest word words found
