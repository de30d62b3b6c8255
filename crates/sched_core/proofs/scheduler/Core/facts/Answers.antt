use Rattle.std.proofs.Common.{◌≡◌, ◌∙◌, ◌≤◌, sym, ap, subst, arith, true}
use Rattle.run_plan_node.specs.Node.{NodeSpec}
use Rattle.run_plan.specs.Plan.{Plan, node_at, count_of}
use Rattle.sched_core.specs.Core.{Progress}
use Rattle.sched_core.specs.Run.{is_among, outstanding}
use Rattle.sched_core.specs.Notes.{noted_facts}
use Rattle.sched_core.proofs.Taking.{facts-noted}
use Rattle.sched_core.proofs.FactsLemmas.{among-within}
use Rattle.sched_core.proofs.scheduler.Core.facts.Goals as goal

pub spec-requires : goal.spec-requires
spec-requires c =
    subst (λ (p : Plan). c.args.key.now.node ≤ count_of p) (sym c.plan.ensures)
    (among-within c.args.self.now.plan c.args.self.now.past c.args.key.now c.keeps_the_law.ensures c.requires)

pub read-requires-clause-runs : goal.read-requires-clause-runs
read-requires-clause-runs c =
    let few = among-within c.args.self.now.plan c.args.self.now.past c.args.key.now c.keeps_the_law.ensures c.requires in
    let same = ap (λ (v : Progress). count_of v.plan) c.self.view_is in
    let many = c.self.invariant.many.runs in
    omega (arith, few, same, many)

pub read-requires-clause-notes : goal.read-requires-clause-notes
read-requires-clause-notes c =
    let few = among-within c.args.self.now.plan c.args.self.now.past c.args.key.now c.keeps_the_law.ensures c.requires in
    let same = ap (λ (v : Progress). count_of v.plan) c.self.view_is in
    let many = c.self.invariant.many.notes in
    omega (arith, few, same, many)

pub read-requires-clause-left : goal.read-requires-clause-left
read-requires-clause-left c =
    let few = among-within c.args.self.now.plan c.args.self.now.past c.args.key.now c.keeps_the_law.ensures c.requires in
    let same = ap (λ (v : Progress). count_of v.plan) c.self.view_is in
    let many = c.self.invariant.many.left in
    omega (arith, few, same, many)

pub returns : goal.returns
returns c =
    let among = subst (λ (v : Progress). is_among c.args.key.now (outstanding v.plan v.past) ≡ true) (sym c.self.view_is) c.requires in
    let spec_is = c.spec.ensures.is ∙ ap (λ (p : Plan). node_at p c.args.key.now.node) c.plan.ensures in
    c.noted_facts.ensures
    ∙ ap (λ (s : NodeSpec). noted_facts s.course c.read.result.notes c.self.inside.aborted c.self.inside.failed) spec_is
    ∙ rw (← c.self.view_is) (facts-noted _ _ c.self.inside.states.notes c.self.inside.failed c.self.invariant.shows.lawful c.self.invariant.noted c.args.key.now among
    c.read.result.notes c.read.ensures.notes c.self.inside.aborted c.self.invariant.shows.aborted_is)
