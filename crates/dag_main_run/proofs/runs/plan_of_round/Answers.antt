use Rattle.std.proofs.Common.{List, ℕ, Some, sym, subst}
use Rattle.std.specs.Option.{option_map}
use Rattle.splices_flat.specs.FileSet.{bytes_of}
use Rattle.dag_main_check.specs.Planned.{in_line, named_by}
use Rattle.dag_main_run.specs.Runs.{IsRoundPlanFault, not_planned, not_planned_with, planning_had_no_memory}
use Rattle.dag_main_check.proofs.Refusals.{weaker}
use Rattle.dag_main_files.proofs.RunFaults.{by-fault}
use Rattle.dag_main_run.proofs.runs.plan_of_round.Goals as goal

pub returns-in-Err-clause-refused : goal.returns-in-Err-clause-refused
returns-in-Err-clause-refused c =
    let refused = IsRoundPlanFault (bytes_of c.args.files.now) c.args.files.now c.args.place.now.top.now c.args.graph c.args.round.now (option_map (λ b. b.now) c.args.rescue) in
    subst refused (sym c.named.ensures)
    (subst (λ (name : List ℕ). refused (named_by (in_line c.in-Err.fault) (Some name) c.in-Err.fault)) (sym c.in_ok-path.ensures.name)
    (not_planned_with c.in-Err.fault c.in-Err.ensures.refused))

pub returns-in_err-path-clause-refused : goal.returns-in_err-path-clause-refused
returns-in_err-path-clause-refused c =
    let refused = IsRoundPlanFault (bytes_of c.args.files.now) c.args.files.now c.args.place.now.top.now c.args.graph c.args.round.now (option_map (λ b. b.now) c.args.rescue) in
    by-fault refused c.in_err-path.field-0.0 (subst refused (sym c.in_err-path.ensures.err) planning_had_no_memory)
    c.from_residual.result c.from_residual.ensures.1

pub returns-then-round-eq0-clause-refused : goal.returns-then-round-eq0-clause-refused
returns-then-round-eq0-clause-refused c =
    weaker (IsRoundPlanFault (bytes_of c.args.files.now) c.args.files.now c.args.place.now.top.now c.args.graph c.args.round.now (option_map (λ b. b.now) c.args.rescue))
    c.plan_by.result c.plan_by.ensures.refused (λ fault is. not_planned fault c.if-round-eq0.true is)
