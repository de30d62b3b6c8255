use Rattle.std.proofs.Common.{◌≡◌, ℕ, ◌<◌, false, length, get_or, take}
use Rattle.run_times.specs.Critical.{is_on_path}
use Rattle.run_times.proofs.critical.marks_of.Given as goal

abbrev pub invariant-loop-place : goal.invariant-loop-place
invariant-loop-place l = record {
  each : length l.marks.items ≡ l.count;
  are : (k : ℕ) → k < l.count → get_or l.marks.items k false ≡ is_on_path (take l.place-index l.path) k;
}
