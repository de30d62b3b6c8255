-- The blanks at the front of a line, as the code counts them.
use Rattle.std.specs.Prelude.{◌≡◌, ℕ, ◌≤◌, true, List, length, take, drop}
use Rattle.std.specs.List.{list_all}
use Rattle.submit_file.specs.Lines.{is_blank, trim_start}

-- so many bytes at the front are blanks
pub record BeginsWithBlanks (count : ℕ) (text : List ℕ) : Type 0 where
  pub within : count ≤ length text
  pub blank : list_all is_blank (take count text) ≡ true

-- these are all of them: what comes after them is the text without the blanks at its front
pub record HasBlanks (count : ℕ) (text : List ℕ) : Type 0 where
  pub front : BeginsWithBlanks count text
  pub behind : drop count text ≡ trim_start text
