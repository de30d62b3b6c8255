-- Where a list of names doesn't fit, the longest one is among those with a name less.
use Rattle.std.proofs.Common.{◌≡◌, ℕ, zero, suc, ◌-◌, ◌<◌, List, false, nat_le, chars, arith}
use Rattle.run_progress.specs.Columns.{columns}
use Rattle.run_progress.specs.Line.{list_of, longest_list}

pub longest_list-shorter : (nodes : List (List ℕ × ℕ)) (room running count : ℕ) → 0 < count
    → nat_le (columns (chars (list_of nodes count running))) room ≡ false
    → longest_list nodes room running count ≡ longest_list nodes room running (count - 1)
longest_list-shorter nodes room running zero some wide = absurd (omega (arith, some))
longest_list-shorter nodes room running (suc count) some wide = grind (arith, wide)
