-- The warnings of lines: each notice once, however many nodes it touches and however often its files are opened.
use Rattle.std.specs.Prelude.{ℕ, ◌==◌, ◌&&◌, Bool, true, false, not, List, [], ◌∷◌, ◌++◌, if◌then◌else◌}
use Rattle.std.specs.List.{list_any}
use Rattle.std.specs.Str.{bytes_eq}
use Rattle.splices_flat.specs.declared.flat.DagWarning.{DagWarning}
use Rattle.splices_flat.specs.declared.flat.DagWarning.TheVariants as warnings

-- a line of the file with this path
pub record Place : Type 0 where
  pub path : List ℕ
  pub line : ℕ

abbrev pub place : List ℕ → ℕ → Place
place path line = record { path = path; line = line }

-- The line that is warned of, and the line that causes it: an ignored line causes its own notice, and that of a replaced setting is caused
-- by the later one.
pub record Notice : Type 0 where
  pub warned : Place
  pub by : Place
  pub is_ignored : Bool

abbrev pub ignored : Place → Notice
ignored line = record { warned = line; by = line; is_ignored = true }

abbrev pub overridden : Place → Place → Notice
overridden earlier later = record { warned = earlier; by = later; is_ignored = false }

abbrev pub same_place : Place → Place → Bool
same_place p q = bytes_eq p.path q.path && (p.line == q.line)

abbrev pub same_notice : Notice → Notice → Bool
same_notice m n = same_place m.warned n.warned && (same_place m.by n.by && (if m.is_ignored then n.is_ignored else not n.is_ignored))

-- one more notice, unless it is there
abbrev pub with_notice : List Notice → Notice → List Notice
with_notice notices n = if list_any (same_notice n) notices then notices else notices ++ n ∷ []

-- the same with these, one after the other
abbrev pub with_notices : List Notice → List Notice → List Notice
with_notices notices [] = notices
with_notices notices (n ∷ others) = with_notices (with_notice notices n) others

-- a notice as the user reads it
abbrev pub warning_of : Notice → DagWarning
warning_of n = if n.is_ignored then warnings.Ignored n.warned.path n.warned.line else warnings.Overridden n.warned.path n.warned.line
