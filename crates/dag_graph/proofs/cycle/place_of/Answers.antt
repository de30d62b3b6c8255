use Rattle.std.proofs.Common.{◌≡◌, ◌==◌, length, slice_index, sym, arith}
use Rattle.std.proofs.lemmas.Bool.{eq-eqb}
use Rattle.std.proofs.lemmas.List.Sums.{position_or_len_is}
use Rattle.std.proofs.lemmas.Grind.{common_steps}
use Rattle.dag_graph.proofs.cycle.place_of.Goals as goal

pub returns-then-other-node : goal.returns-then-other-node
returns-then-other-node c =
    let here : slice_index c.args.nodes.now c.loop-k.k ≡ c.args.node = grind (arith, common_steps) in
    sym (position_or_len_is (λ n. n == c.args.node) c.args.nodes.now c.loop-k.k 0 (omega arith) c.loop-k.invariant (λ lt. eq-eqb _ _ here))

pub returns : goal.returns
returns c = sym (position_or_len_is (λ n. n == c.args.node) c.args.nodes.now (length c.args.nodes.now) 0 (omega arith) (λ k lt. c.loop-k.invariant k (omega arith)) (λ lt. absurd (omega arith)))
