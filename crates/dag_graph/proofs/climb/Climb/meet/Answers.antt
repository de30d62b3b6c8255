use Rattle.std.proofs.Common.{◌≡◌, ◌<◌, ℕ, length, slice_index, true, sym, ◌∙◌, subst, arith}
use Rattle.std.specs.List.{Contains}
use Rattle.dag_graph.specs.Climb.{ClimbsOn, up, is_placed}
use Rattle.dag_graph.proofs.Climbs.{goes_passed, goes_entered, closes, turn_parent, last_inside}
use Rattle.dag_graph.proofs.climb.Climb.meet.Goals as goal

pub returns-then-is_placed : goal.returns-then-is_placed
returns-then-is_placed c =
    let done : is_placed c.args.self.now c.args.parent ≡ true = sym c.is_placed.ensures ∙ c.if-is_placed.true in
    subst (ClimbsOn c.args.parents.now c.args.self.now) (sym c.pass.ensures) (goes_passed c.args.parents.now c.args.self.now c.args.node c.requires.climb c.requires.last c.requires.turn (subst (λ (p : ℕ). is_placed c.args.self.now p ≡ true) c.requires.parent done))

pub returns-then-is_entered : goal.returns-then-is_entered
returns-then-is_entered c =
    let k : ℕ = slice_index c.args.self.now.next c.args.node in
    let node : c.args.node < length c.args.parents.now = last_inside c.args.parents.now c.args.self.now c.args.node c.requires.climb c.requires.last in
    let inside = c.requires.below c.args.node k node c.requires.turn in
    let parent : c.args.parent < length c.args.parents.now = omega (arith, inside, c.requires.parent) in
    closes c.args.parents.now c.args.self.now c.args.node c.args.parent c.requires.climb c.requires.last parent
    (sym c.is_entered.ensures ∙ c.if-is_entered.true) (sym c.is_placed.ensures ∙ c.if-is_placed.false)
    (subst (λ (p : ℕ). Contains (up c.args.parents.now c.args.node) p) (sym c.requires.parent) (turn_parent c.args.parents.now c.args.node k c.requires.turn))

pub returns : goal.returns
returns c =
    let k : ℕ = slice_index c.args.self.now.next c.args.node in
    let node : c.args.node < length c.args.parents.now = last_inside c.args.parents.now c.args.self.now c.args.node c.requires.climb c.requires.last in
    let inside = c.requires.below c.args.node k node c.requires.turn in
    let parent : c.args.parent < length c.args.parents.now = omega (arith, inside, c.requires.parent) in
    subst (ClimbsOn c.args.parents.now c.args.self.now) (sym c.in_ok-enter.ensures) (goes_entered c.args.parents.now c.args.self.now c.args.node c.args.parent c.requires.climb c.requires.last parent
    (sym c.is_entered.ensures ∙ c.if-is_entered.false) (sym c.is_placed.ensures ∙ c.if-is_placed.false)
    (subst (λ (p : ℕ). Contains (up c.args.parents.now c.args.node) p) (sym c.requires.parent) (turn_parent c.args.parents.now c.args.node k c.requires.turn)))
