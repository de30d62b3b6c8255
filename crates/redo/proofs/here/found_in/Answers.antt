use Rattle.std.proofs.Common.{ℕ, List, map, subst, string_bytes}
use Rattle.run_plan.specs.Plan.{Plan}
use Rattle.failure_report.specs.Named.{AreNumbers, IsNamed, IsUnknownName}
use Rattle.redo.specs.Answered.{IsMarkedOf}
use Rattle.redo.proofs.here.found_in.Goals as goal

pub returns-in_ok-marked-in-Nodes-clause-found : goal.returns-in_ok-marked-in-Nodes-clause-found
returns-in_ok-marked-in-Nodes-clause-found c =
    let names = map (λ n. n.now) c.args.names.now in
    let marked = c.in_ok-marked-in-Nodes.marked in (
      c.in-Nodes.numbers.items,
      subst (λ (p : Plan). AreNumbers p names c.in-Nodes.numbers.items) c.plan.ensures
          (subst (IsNamed c.plan.result.now c.args.top.now names) c.in-Nodes.is c.in_ok-numbered.ensures),
      subst (λ (ns : List ℕ). IsMarkedOf c.args.core.now.plan c.args.core.now.past c.args.only ns (string_bytes marked.redone.text) marked.redone.done marked.total (string_bytes marked.warnings))
          c.deref.ensures.value c.in_ok-marked-in-Nodes.ensures.marked,
    )

pub returns-in-Unknown-clause-found : goal.returns-in-Unknown-clause-found
returns-in-Unknown-clause-found c =
    let names = map (λ n. n.now) c.args.names.now in
    subst (λ (p : Plan). IsUnknownName p c.args.top.now names (string_bytes c.in-Unknown.line)) c.plan.ensures
    (subst (IsNamed c.plan.result.now c.args.top.now names) c.in-Unknown.is c.in_ok-numbered.ensures)
