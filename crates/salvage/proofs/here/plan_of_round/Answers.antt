use Rattle.std.proofs.Common.{◌∙◌, Bor, Some, List, ℕ, sym, subst, ap}
use Rattle.std.specs.Option.{option_map}
use Rattle.splices_flat.specs.FileSet.{bytes_of}
use Rattle.dag_main_check.specs.declared.fault.RunFault.TheVariants.{InPlan}
use Rattle.dag_main_check.specs.Planned.{rescue_line, named_by}
use Rattle.dag_main_files.proofs.RunFaults.{by-fault}
use Rattle.salvage.specs.Refused.{IsBarePlanFault, has_no_graph, not_planned, not_marked, planning_had_no_memory}
use Rattle.salvage.proofs.Refusals.{plan-fault}
use Rattle.salvage.proofs.here.plan_of_round.Goals as goal

pub returns-in_err-graph-clause-refused : goal.returns-in_err-graph-clause-refused
returns-in_err-graph-clause-refused c =
    by-fault (IsBarePlanFault c.args.round.now.always_post (bytes_of c.args.files.now) c.args.top.now c.args.round.now.used (option_map (λ b. b.now) c.args.rescue))
    c.in_err-graph.field-0.0 (has_no_graph _ c.in_err-graph.ensures.refused) c.from_residual.result c.from_residual.ensures.1

pub returns-in-Ok-clause-plan : goal.returns-in-Ok-clause-plan
returns-in-Ok-clause-plan c = record { graph = c.in_ok-graph.graph; is_graph = c.in_ok-graph.ensures.graph; made = c.in-Ok.ensures.plan }

pub returns-in-Err-clause-refused : goal.returns-in-Err-clause-refused
returns-in-Err-clause-refused c = planning_had_no_memory

pub returns-in-Err-2-clause-refused : goal.returns-in-Err-2-clause-refused
returns-in-Err-2-clause-refused c =
    not_planned c.in_ok-graph.graph c.in-Err.fault c.if-round-eq0.true c.in_ok-graph.ensures.graph
    (plan-fault c.in-Err.fault _ (sym c.is_memory.ensures ∙ c.if-is_memory.false) c.in-Err.ensures.refused.1)

pub returns-in_err-path-in-Err-3-clause-refused : goal.returns-in_err-path-in-Err-3-clause-refused
returns-in_err-path-in-Err-3-clause-refused c =
    let P = IsBarePlanFault c.args.round.now.always_post (bytes_of c.args.files.now) c.args.top.now c.args.round.now.used (option_map (λ (b : Bor (List ℕ)). b.now) c.args.rescue) in
    by-fault P c.in_err-path-in-Err-3.field-0.0 (subst P (sym c.in_err-path-in-Err-3.ensures.err) planning_had_no_memory)
    c.from_residual-in_err-path-in-Err-3.result c.from_residual-in_err-path-in-Err-3.ensures.1

pub returns-in_ok-path-in-Err-3-clause-refused : goal.returns-in_ok-path-in-Err-3-clause-refused
returns-in_ok-path-in-Err-3-clause-refused c =
    let P = IsBarePlanFault c.args.round.now.always_post (bytes_of c.args.files.now) c.args.top.now c.args.round.now.used (option_map (λ (b : Bor (List ℕ)). b.now) c.args.rescue) in
    subst P (sym (c.named.ensures ∙ ap (λ (p : List ℕ). named_by (rescue_line c.in-Err.fault) (Some p) (InPlan c.in-Err.fault)) c.in_ok-path-in-Err-3.ensures.name))
    (not_marked c.in_ok-graph.graph c.in-Err.fault c.if-round-eq0.false c.in_ok-graph.ensures.graph
    (plan-fault c.in-Err.fault _ (sym c.is_memory.ensures ∙ c.if-is_memory.false) c.in-Err.ensures.refused.1))
