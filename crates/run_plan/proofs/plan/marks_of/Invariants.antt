use Rattle.std.proofs.Common.{◌≡◌, ◌<◌, ℕ, false, length, take, slice_index_or}
use Rattle.run_plan.specs.Specs.{is_listed}
use Rattle.run_plan.proofs.plan.marks_of.Given as goal

abbrev pub invariant-loop-number : goal.invariant-loop-number
invariant-loop-number l = record {
  length : length l.marks.items ≡ l.count;
  marked : (n : ℕ) → n < l.count → slice_index_or l.marks.items n false ≡ is_listed (take l.number-index l.numbers) n;
}
