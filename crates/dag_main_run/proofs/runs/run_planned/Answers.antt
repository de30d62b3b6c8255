use Rattle.std.proofs.Common.{refl, subst, sym}
use Rattle.std.specs.Option.{option_map}
use Rattle.splices_flat.specs.FileSet.{entries_of}
use Rattle.dag_main_run.proofs.RunChanges.{round-unchanged}
use Rattle.dag_main_run.specs.Runs.{IsStopFault, leading_had_no_memory}
use Rattle.dag_main_files.proofs.RunFaults.{by-fault}
use Rattle.dag_main_run.proofs.runs.run_planned.Goals as goal

pub returns-in_err-rescue-clause-refused : goal.returns-in_err-rescue-clause-refused
returns-in_err-rescue-clause-refused g c = by-fault (IsStopFault _ _ _ _ _) c.in_err-rescue.field-0.0 (subst (IsStopFault _ _ _ _ _) (sym c.in_err-rescue.ensures.refused) leading_had_no_memory) c.from_residual.result c.from_residual.ensures.1

pub returns-in_err-journal-clause-refused : goal.returns-in_err-journal-clause-refused
returns-in_err-journal-clause-refused g c = by-fault (IsStopFault _ _ _ _ _) c.in_err-journal.field-0.0 (subst (IsStopFault _ _ _ _ _) (sym c.in_err-journal.ensures.refused) leading_had_no_memory) c.from_residual-in_err-journal.result c.from_residual-in_err-journal.ensures.1

pub returns-in_err-rescue-clause-changes : goal.returns-in_err-rescue-clause-changes
returns-in_err-rescue-clause-changes g c =
    round-unchanged c.args.place.now.top.now c.args.plan.now.digest (entries_of c.args.inputs.files.now) (option_map (λ b. b.now) c.args.inputs.rescue) c.args.round.now _
    c.in_err-rescue.field-0.0 c.from_residual.result c.from_residual.ensures.1 c.args.changes.now c.args.changes.now refl

pub returns-in_err-journal-clause-changes : goal.returns-in_err-journal-clause-changes
returns-in_err-journal-clause-changes g c =
    round-unchanged c.args.place.now.top.now c.args.plan.now.digest (entries_of c.args.inputs.files.now) (option_map (λ b. b.now) c.args.inputs.rescue) c.args.round.now _
    c.in_err-journal.field-0.0 c.from_residual-in_err-journal.result c.from_residual-in_err-journal.ensures.1 c.args.changes.now c.args.changes.now refl
