-- The parentheses of a text that close one another.
use Rattle.std.specs.Prelude.{◌≡◌, ℕ, nat_lt, ◌+◌, List, length, drop, slice_get, Option, Some, None, option_map, if◌then◌else◌}
use Rattle.std.specs.BTreeMap.{get}
use Rattle.std.specs.Ordering.{nat_cmp}
use Rattle.vars_macros.specs.Cut.{closing}
use Rattle.vars_macros.specs.declared.pairs.Pairs.{Pairs}

-- where the parenthesis is closed that opens at this place
abbrev pub closer_of : Pairs → ℕ → Option ℕ
closer_of pairs at = get nat_cmp pairs.closers at

-- Where an opening parenthesis (40) is in the text, the pairs have the place of the one that closes it, if one does.
abbrev pub ArePairsOf : List ℕ → (ℕ → Option ℕ) → Type 0
ArePairsOf text pairs = (at : ℕ) → slice_get text at ≡ Some 40 → pairs at ≡ option_map (λ n. at + 1 + n) (closing (drop (at + 1) text))

-- a place, if it is before this end
abbrev pub if_before : ℕ → Option ℕ → Option ℕ
if_before end None = None
if_before end (Some place) = if nat_lt place end then Some place else None

-- The same of a part of a text that starts at this place of it: what closes after the part closes nothing in it.
abbrev pub ArePairsIn : ℕ → List ℕ → (ℕ → Option ℕ) → Type 0
ArePairsIn start part pairs =
    (k : ℕ) → slice_get part k ≡ Some 40 → if_before (start + length part) (pairs (start + k)) ≡ option_map (λ n. start + k + 1 + n) (closing (drop (k + 1) part))

-- where it is closed by these pairs, or by none
abbrev pub closer_in : Option Pairs → ℕ → Option ℕ
closer_in None at = None
closer_in (Some pairs) at = closer_of pairs at
