use Rattle.std.proofs.Common.{rules, [], sym, append-nil}
use Rattle.dag_main_files.proofs.RunFaults.{by-fault}
use Rattle.dag_main_run.specs.Runs.{any_round, held_round, IsRunFault, IsRunFaultFrom, no_memory}
use Rattle.dag_main_run.specs.RunChanges.{no_looks}
use Rattle.dag_main_run.proofs.RunChanges.{looked-more}
use Rattle.dag_main_run.proofs.RunPlans.{told-of-some, told-held}
use Rattle.dag_main_run.proofs.runs.planned_at_last.Goals as goal

pub returns-in_err-read_missing-in-Err-clause-refused : goal.returns-in_err-read_missing-in-Err-clause-refused
returns-in_err-read_missing-in-Err-clause-refused g c =
    by-fault (IsRunFault _ c.args.place.now.top.now c.args.options.now) c.in_err-read_missing-in-Err.field-0.0
    (told-of-some c.loop.files (any_round c.args.place.now.top.now c.args.options.now) _ c.args.place.now.top.now c.args.options.now c.in-Err.fault _ c.in-Err.ensures.refused c.in_err-read_missing-in-Err.ensures.refused)
    c.from_residual.result c.from_residual.ensures.1

pub returns-in_err-read_missing-in-Err-clause-refused_held : goal.returns-in_err-read_missing-in-Err-clause-refused_held
returns-in_err-read_missing-in-Err-clause-refused_held g c = λ honest.
    by-fault (IsRunFaultFrom (g.H.Folder.holds c.args.site.now) (g.H.Folder.has c.args.site.now) _ c.args.place.now.top.now c.args.options.now) c.in_err-read_missing-in-Err.field-0.0
    (told-held (g.H.Folder.holds c.args.site.now) c.loop.files c.args.place.now.top.now (c.loop.invariant.0 honest) (held_round (g.H.Folder.holds c.args.site.now) (g.H.Folder.has c.args.site.now) c.args.place.now.top.now c.args.options.now) _ c.args.options.now c.in-Err.fault _ (c.in-Err.ensures.refused_held honest) (c.in_err-read_missing-in-Err.ensures.refused_held honest))
    c.from_residual.result c.from_residual.ensures.1

pub returns-clause-refused : goal.returns-clause-refused
returns-clause-refused g c = no_memory

pub returns-clause-refused_held : goal.returns-clause-refused_held
returns-clause-refused_held g c = λ honest. no_memory

pub returns-in-Ok-clause-changes : goal.returns-in-Ok-clause-changes
returns-in-Ok-clause-changes g c = looked-more c.args.place.now.top.now c.args.changes.now c.loop.changes c.planned_by.new.changes c.loop.invariant.1 c.in-Ok.ensures.changes

pub returns-in_err-read_missing-in-Err-clause-changes : goal.returns-in_err-read_missing-in-Err-clause-changes
returns-in_err-read_missing-in-Err-clause-changes g c =
    looked-more c.args.place.now.top.now c.args.changes.now c.loop.changes c.planned_by.new.changes c.loop.invariant.1 c.in-Err.ensures.changes

pub returns-clause-changes : goal.returns-clause-changes
returns-clause-changes g c = c.loop.invariant.1

pub loop-init : goal.loop-init
loop-init g c = (c.requires.read, ([], no_looks, sym (append-nil c.args.changes.now)))

pub loop-preserved : goal.loop-preserved
loop-preserved g c = (
  search rules,
  looked-more c.args.place.now.top.now c.args.changes.now c.loop.changes c.planned_by.new.changes c.loop.invariant.1 c.in-Err.ensures.changes,
)
