use Rattle.std.proofs.Common.{[], sym, subst, append-nil}
use Rattle.dag_main_files.proofs.RunFaults.{by-fault}
use Rattle.dag_main_run.specs.Runs.{IsRunFault, IsRunFaultFrom, no_memory}
use Rattle.dag_main_run.specs.RunChanges.{no_looks, left_unlocked}
use Rattle.dag_main_run.proofs.RunChanges.{is-refused, looked-first}
use Rattle.dag_main_run.proofs.runs.run_dag.Goals as goal

pub planned_at_last-requires : goal.planned_at_last-requires
planned_at_last-requires g c = record { read = λ honest. c.in_ok-files.ensures.read honest }

pub returns-in_err-files-clause-refused : goal.returns-in_err-files-clause-refused
returns-in_err-files-clause-refused g c = λ unstreamed.
    by-fault (IsRunFault _ c.args.place.now.top.now c.args.options.now) c.in_err-files.field-0.0
    (subst (IsRunFault _ c.args.place.now.top.now c.args.options.now) (sym (c.in_err-files.ensures.unstreamed unstreamed)) no_memory) c.from_residual.result c.from_residual.ensures.1

pub returns-in_err-files-clause-refused_held : goal.returns-in_err-files-clause-refused_held
returns-in_err-files-clause-refused_held g c = λ unstreamed honest.
    by-fault (IsRunFaultFrom (g.H.Folder.holds c.args.site.now) (g.H.Folder.has c.args.site.now) _ c.args.place.now.top.now c.args.options.now) c.in_err-files.field-0.0
    (subst (IsRunFaultFrom (g.H.Folder.holds c.args.site.now) (g.H.Folder.has c.args.site.now) _ c.args.place.now.top.now c.args.options.now) (sym (c.in_err-files.ensures.unstreamed unstreamed)) no_memory) c.from_residual.result c.from_residual.ensures.1

pub returns-in_err-made-clause-refused : goal.returns-in_err-made-clause-refused
returns-in_err-made-clause-refused g c = λ unstreamed.
    by-fault (IsRunFault _ c.args.place.now.top.now c.args.options.now) c.in_err-made.field-0.0 c.in_err-made.ensures.refused
    c.from_residual-in_err-made.result c.from_residual-in_err-made.ensures.1

pub returns-in_err-made-clause-refused_held : goal.returns-in_err-made-clause-refused_held
returns-in_err-made-clause-refused_held g c = λ unstreamed honest.
    by-fault (IsRunFaultFrom (g.H.Folder.holds c.args.site.now) (g.H.Folder.has c.args.site.now) _ c.args.place.now.top.now c.args.options.now) c.in_err-made.field-0.0
    (c.in_err-made.ensures.refused_held honest) c.from_residual-in_err-made.result c.from_residual-in_err-made.ensures.1

pub returns-in_err-files-clause-changes : goal.returns-in_err-files-clause-changes
returns-in_err-files-clause-changes g c =
    ([], no_looks, left_unlocked (is-refused _ c.from_residual.result c.from_residual.ensures.1) (sym (append-nil c.args.changes.now)))

pub returns-in_err-made-clause-changes : goal.returns-in_err-made-clause-changes
returns-in_err-made-clause-changes g c =
    let looks = c.in_err-made.ensures.changes in
    (looks.0, looks.1, left_unlocked (is-refused _ c.from_residual-in_err-made.result c.from_residual-in_err-made.ensures.1) looks.2)

pub returns-clause-changes : goal.returns-clause-changes
returns-clause-changes g c =
    looked-first c.run_made.result _ _ c.args.place.now.top.now c.args.options.now c.args.changes.now c.planned_at_last.new.changes c.run_made.new.changes
    c.in_ok-made.ensures.changes c.run_made.ensures.changes
