use Rattle.std.proofs.Common.{ℕ, suc, ◌<◌, List, ◌++◌, length, Option, Some, None}
use Rattle.std.specs.Prelude.{IfSome}
use Rattle.run_times.specs.Critical.{IsChain}
use Rattle.run_times.proofs.critical.path_of.Given as goal

abbrev pub left : Option ℕ → ℕ
left (Some place) = suc place
left None = 0

abbrev pub invariant-loop-next : goal.invariant-loop-next
invariant-loop-next l = record {
  inside : IfSome l.next (λ place. place < length l.runs);
  chain : (rest : List ℕ) → IsChain l._graph l.runs l.next rest → IsChain l._graph l.runs l.waits.latest (l.path.items ++ rest);
}

abbrev pub decreases-loop-next : goal.decreases-loop-next
decreases-loop-next l = left l.next
