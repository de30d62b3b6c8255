use Rattle.std.proofs.Common.{◌≡◌, ℕ, length, Some}
use Rattle.std.specs.Prelude.{slice_get}
use Rattle.run_times.specs.declared.bars.Bar.{Bar}
use Rattle.run_times.specs.Bars.{IsBarAt}
use Rattle.run_times.proofs.bars.bars_of.Given as goal

abbrev pub invariant-loop-place : goal.invariant-loop-place
invariant-loop-place l = record {
  each : length l.bars.items ≡ l.place;
  are : (place : ℕ) (bar : Bar) → slice_get l.bars.items place ≡ Some bar → IsBarAt l.canvas l.runs l.marks l.slots.of.items l.limits.items place bar;
}
