use Rattle.std.proofs.Common.{◌≡◌, ℕ, length, subst, ap, arith}
use Rattle.std.specs.Prelude.{Vec}
use Rattle.std.specs.Global.{Global}
use Rattle.std.proofs.lemmas.List.{length-map}
use Rattle.run_plan.specs.Plan.{Plan, count_of}
use Rattle.failure_report.specs.Reaching.{nodes_in, ListsAreBelow}
use Rattle.failure_report.proofs.Holding.{held_many, held_below, counts_waiting}
use Rattle.failure_report.proofs.waiting.waiting_for.Goals as goal

pub count_from-requires-clause-few : goal.count_from-requires-clause-few
count_from-requires-clause-few c =
    let plan = c.args.core.now.plan in
    let counted : count_of plan ≡ length plan.graph.dag.nodes = subst (λ (p : Plan). count_of p ≡ length p.graph.dag.nodes) c.plan.ensures c.graph-graph.ensures.count in
    let many = held_many plan c.args.core.now.past counted (nodes_in c.args.held.now) c.requires.held in
    let long = length-map c.args.held.now (λ (v : Vec ℕ Global). v.items) in
    let same : count_of c.plan-2.result.now ≡ count_of plan = ap count_of c.plan-2.ensures in
    let is = c.count-nodes.ensures.is in
    let room = c.count-nodes.ensures.room in
    omega (arith, many, long, same, is, room)

pub count_from-requires-clause-node : goal.count_from-requires-clause-node
count_from-requires-clause-node c =
    let plan = c.args.core.now.plan in
    let counted : count_of plan ≡ length plan.graph.dag.nodes = subst (λ (p : Plan). count_of p ≡ length p.graph.dag.nodes) c.plan.ensures c.graph-graph.ensures.count in
    let many = held_many plan c.args.core.now.past counted (nodes_in c.args.held.now) c.requires.held in
    let long = length-map c.args.held.now (λ (v : Vec ℕ Global). v.items) in
    let node = c.requires.node in
    omega (arith, many, long, node)

pub count_from-requires-clause-below : goal.count_from-requires-clause-below
count_from-requires-clause-below c =
    let plan = c.args.core.now.plan in
    let counted : count_of plan ≡ length plan.graph.dag.nodes = subst (λ (p : Plan). count_of p ≡ length p.graph.dag.nodes) c.plan.ensures c.graph-graph.ensures.count in
    subst (λ (n : ℕ). ListsAreBelow n (nodes_in c.args.held.now)) (length-map c.args.held.now (λ (v : Vec ℕ Global). v.items))
    (held_below plan c.args.core.now.past counted (nodes_in c.args.held.now) c.requires.held)

pub returns : goal.returns
returns c =
    let plan = c.args.core.now.plan in
    let counted : count_of plan ≡ length plan.graph.dag.nodes = subst (λ (p : Plan). count_of p ≡ length p.graph.dag.nodes) c.plan.ensures c.graph-graph.ensures.count in
    let node = c.requires.node in
    counts_waiting plan c.args.core.now.past counted (nodes_in c.args.held.now) c.requires.held c.args.node c.in_ok-count.count (omega (arith, node)) c.in_ok-count.ensures
