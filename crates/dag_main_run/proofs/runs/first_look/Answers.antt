use Rattle.dag_main_files.proofs.RunFaults.{by-fault}
use Rattle.dag_main_check.proofs.Refusals.{weaker}
use Rattle.std.proofs.Common.{[], sym, subst, append-nil}
use Rattle.dag_main_run.specs.RunChanges.{not_locked}
use Rattle.dag_main_run.specs.Runs.{IsFindingFault, IsFindingFaultHeld, IsFirstRunFault, not_ours, not_found_at_first, looked_again}
use Rattle.dag_main_run.proofs.runs.first_look.Goals as goal

pub returns-in_err-has_own_files-clause-refused : goal.returns-in_err-has_own_files-clause-refused
returns-in_err-has_own_files-clause-refused g c =
    by-fault (IsFirstRunFault c.args.place.now.top.now (IsFindingFault c.args.place.now.top.now c.args.options.now)) c.in_err-has_own_files.field-0.0
    (not_ours _ c.in_err-has_own_files.ensures) c.from_residual.result c.from_residual.ensures.1

pub returns-in_err-has_own_files-clause-refused_held : goal.returns-in_err-has_own_files-clause-refused_held
returns-in_err-has_own_files-clause-refused_held g c = λ honest.
    by-fault (IsFirstRunFault c.args.place.now.top.now (IsFindingFaultHeld (g.F.Folder.holds c.args.folder.now) (g.F.Folder.has c.args.folder.now) c.args.place.now.top.now c.args.options.now)) c.in_err-has_own_files.field-0.0
    (not_ours _ c.in_err-has_own_files.ensures) c.from_residual.result c.from_residual.ensures.1

pub returns-in-Err-InManager-clause-refused : goal.returns-in-Err-InManager-clause-refused
returns-in-Err-InManager-clause-refused g c =
    weaker (IsFirstRunFault c.args.place.now.top.now (IsFindingFault c.args.place.now.top.now c.args.options.now)) c.look_locked.result c.look_locked.ensures.refused
    (λ fault is. looked_again c.in-Err-InManager._journal fault
    (subst (IsFindingFault c.args.place.now.top.now c.args.options.now) c.in-Err-InManager.field-0-is c.in-Err-InManager.ensures.refused) is)

pub returns-in-Err-InManager-clause-refused_held : goal.returns-in-Err-InManager-clause-refused_held
returns-in-Err-InManager-clause-refused_held g c = λ honest.
    weaker (IsFirstRunFault c.args.place.now.top.now (IsFindingFaultHeld (g.F.Folder.holds c.args.folder.now) (g.F.Folder.has c.args.folder.now) c.args.place.now.top.now c.args.options.now)) c.look_locked.result (c.look_locked.ensures.refused_held honest)
    (λ fault is. looked_again c.in-Err-InManager._journal fault
    (subst (IsFindingFaultHeld (g.F.Folder.holds c.args.folder.now) (g.F.Folder.has c.args.folder.now) c.args.place.now.top.now c.args.options.now) c.in-Err-InManager.field-0-is (c.in-Err-InManager.ensures.refused_held honest)) is)

pub returns-in-Err : goal.returns-in-Err
returns-in-Err g c = record {
  found = tt;
  refused = not_found_at_first c.in-Err.fault c.in-Err.ensures.refused;
  refused_held = λ honest. not_found_at_first c.in-Err.fault (c.in-Err.ensures.refused_held honest);
  changes = ([], not_locked, sym (append-nil c.args.changes.now));
}

pub returns-in_err-has_own_files-clause-changes : goal.returns-in_err-has_own_files-clause-changes
returns-in_err-has_own_files-clause-changes g c = ([], not_locked, sym (append-nil c.args.changes.now))

pub returns-in-Err-InManager-clause-changes : goal.returns-in-Err-InManager-clause-changes
returns-in-Err-InManager-clause-changes g c = c.look_locked.ensures.changes

pub returns-in-Ok-clause-changes : goal.returns-in-Ok-clause-changes
returns-in-Ok-clause-changes g c = ([], not_locked, sym (append-nil c.args.changes.now))
