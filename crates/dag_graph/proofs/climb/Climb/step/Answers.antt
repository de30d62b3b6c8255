use Rattle.std.proofs.Common.{◌≡◌, ◌<◌, ◌≤◌, ℕ, List, [], length, slice_index, sym, ap, ◌∙◌, subst, arith}
use Rattle.std.proofs.lemmas.List.{get_or_read}
use Rattle.dag_graph.specs.Climb.{ClimbsOn, up}
use Rattle.dag_graph.proofs.Climbs.{goes_placed, last_inside}
use Rattle.dag_graph.proofs.climb.Climb.step.Goals as goal

pub returns : goal.returns
returns c =
    let node : c.args.node < length c.args.parents.now = last_inside c.args.parents.now c.args.self.now c.args.node c.requires.climb c.requires.last in
    let same : c.as_slice-own.result.now ≡ up c.args.parents.now c.args.node = c.as_slice-own.ensures ∙ get_or_read c.args.parents.now c.args.node c.index-parents-node.result node c.index-parents-node.is [] in
    let len : length c.as_slice-own.result.now ≡ length (up c.args.parents.now c.args.node) = ap (λ (xs : List ℕ). length xs) same in
    let all : length (up c.args.parents.now c.args.node) ≤ slice_index c.args.self.now.next c.args.node = omega (arith, len, c.passed-turn.ensures, c.if-turn-own.false) in
    subst (ClimbsOn c.args.parents.now c.args.self.now) (sym c.in_ok-place.ensures) (goes_placed c.args.parents.now c.args.self.now c.args.node c.requires.below c.requires.climb c.requires.last all)
