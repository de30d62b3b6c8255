use Rattle.std.proofs.Common.{◌≡◌, ℕ, ◌-◌, ◌≤◌, length, take, Some}
use Rattle.std.specs.Prelude.{slice_get}
use Rattle.run_times.specs.declared.kinds.Kind.{Kind}
use Rattle.run_times.specs.declared.kinds.TheConstants.{MOST}
use Rattle.run_times.specs.Kinds.{IsLongest}
use Rattle.run_times.proofs.kinds.longest_kinds.Given as goal

abbrev pub invariant-loop-totals : goal.invariant-loop-totals
invariant-loop-totals l = record {
  few : length l.kinds.items ≤ MOST;
  are : (i : ℕ) (kind : Kind) → slice_get l.kinds.items i ≡ Some kind → IsLongest l.graph l.runs (length l.runs) (take i l.kinds.items) kind;
}

abbrev pub decreases-loop-totals : goal.decreases-loop-totals
decreases-loop-totals l = MOST - length l.kinds.items
