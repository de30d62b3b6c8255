use Rattle.std.proofs.Common.{◌≡◌, ℕ, ◌+◌, ◌<◌, ◌||◌, ◌==◌, false, length, take, vec_len, slice_index_or}
use Rattle.std.specs.List.{list_any}
use Rattle.splices.proofs.ends.mark_all.Given as goal

abbrev pub invariant-loop-number : goal.invariant-loop-number
invariant-loop-number l = record {
  len : vec_len l.marks ≡ vec_len l.initial.marks;
  same_len : length l.marks.items ≡ length l.initial.marks.items;
  marked : (k : ℕ) → k < length l.initial.marks.items → slice_index_or l.marks.items k false ≡ (slice_index_or l.initial.marks.items k false || list_any (λ n. n == l.first + k) (take l.number-index l.numbers));
}
