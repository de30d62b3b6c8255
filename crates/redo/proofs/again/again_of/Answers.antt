use Rattle.std.proofs.Common.{◌∙◌, ℕ, List, length, subst, sym, ap, arith}
use Rattle.std.specs.Prelude.{Vec}
use Rattle.std.specs.Global.{Global}
use Rattle.std.proofs.lemmas.List.{length-map}
use Rattle.failure_report.specs.Reaching.{nodes_in, next_in, ListsAreBelow, AreReached}
use Rattle.redo.proofs.Running.{again-many, again-below, again-are}
use Rattle.redo.proofs.again.again_of.Goals as goal

pub reached_from-requires-clause-node : goal.reached_from-requires-clause-node
reached_from-requires-clause-node c =
    let plan = c.args.plan.now in
    let many = again-many plan c.graph-graph.ensures.count c.args.only c.args.named.now (nodes_in c.in_ok-lists.lists.items) c.in_ok-lists.ensures in
    let long = length-map c.in_ok-lists.lists.items (λ (v : Vec ℕ Global). v.items) in
    let same = ap (λ (ls : List (Vec ℕ Global)). length ls) c.deref.ensures.value in
    let is = c.count-place.ensures.is in
    omega (arith, many, long, same, is)

pub reached_from-requires-clause-below : goal.reached_from-requires-clause-below
reached_from-requires-clause-below c =
    let plan = c.args.plan.now in
    subst (λ (ls : List (Vec ℕ Global)). ListsAreBelow (length ls) (nodes_in ls)) (sym c.deref.ensures.value)
    (subst (λ (n : ℕ). ListsAreBelow n (nodes_in c.in_ok-lists.lists.items)) (length-map c.in_ok-lists.lists.items (λ (v : Vec ℕ Global). v.items))
    (again-below plan c.graph-graph.ensures.count c.args.only c.args.named.now (nodes_in c.in_ok-lists.lists.items) c.in_ok-lists.ensures))

pub returns-clause-many : goal.returns-clause-many
returns-clause-many c =
    let plan = c.args.plan.now in
    c.in_ok-again.ensures.many ∙ ap (λ (ls : List (Vec ℕ Global)). length ls) c.deref.ensures.value
    ∙ sym (length-map c.in_ok-lists.lists.items (λ (v : Vec ℕ Global). v.items))
    ∙ again-many plan c.graph-graph.ensures.count c.args.only c.args.named.now (nodes_in c.in_ok-lists.lists.items) c.in_ok-lists.ensures

pub returns-clause-are : goal.returns-clause-are
returns-clause-are c =
    let plan = c.args.plan.now in
    again-are plan c.graph-graph.ensures.count c.args.only c.args.named.now (nodes_in c.in_ok-lists.lists.items) c.in_ok-lists.ensures c.in_ok-again.again.items
    (subst (λ (n : ℕ). AreReached (next_in (nodes_in c.in_ok-lists.lists.items)) n c.in_ok-again.again.items) c.count-place.ensures.is
    (subst (λ (ls : List (Vec ℕ Global)). AreReached (next_in (nodes_in ls)) c.count-place.result c.in_ok-again.again.items) c.deref.ensures.value c.in_ok-again.ensures.are))
