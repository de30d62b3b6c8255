use Rattle.std.proofs.Common.{◌∙◌, ◌++◌, [], sym, append-nil}
use Rattle.dag_main_files.proofs.RunFaults.{by-fault}
use Rattle.dag_main_check.proofs.Refusals.{weaker}
use Rattle.dag_main_files.specs.Changes.{locks, unlocks}
use Rattle.dag_main_files.proofs.Makes.{made-after}
use Rattle.dag_main_run.specs.RunChanges.{not_locked, looked_locked}
use Rattle.dag_main_run.specs.Runs.{IsFindingFault, IsFindingFaultHeld, IsLockedFault, no_room_for_lock, lock_refused, not_found_locked}
use Rattle.dag_main_run.proofs.runs.look_locked.Goals as goal

pub returns-in_err-has_room_for_names-clause-refused : goal.returns-in_err-has_room_for_names-clause-refused
returns-in_err-has_room_for_names-clause-refused g c =
    by-fault (IsLockedFault c.args.place.now.top.now (IsFindingFault c.args.place.now.top.now c.args.options.now)) c.in_err-has_room_for_names.field-0.0 (no_room_for_lock _ c.in_err-has_room_for_names.ensures.refused)
    c.from_residual.result c.from_residual.ensures.1

pub returns-in_err-lock-clause-refused : goal.returns-in_err-lock-clause-refused
returns-in_err-lock-clause-refused g c =
    by-fault (IsLockedFault c.args.place.now.top.now (IsFindingFault c.args.place.now.top.now c.args.options.now)) c.in_err-lock.field-0.0 (lock_refused _ c.in_err-lock.ensures.refused)
    c.from_residual-in_err-lock.result c.from_residual-in_err-lock.ensures.1

pub returns-clause-refused : goal.returns-clause-refused
returns-clause-refused g c =
    weaker (IsLockedFault c.args.place.now.top.now (IsFindingFault c.args.place.now.top.now c.args.options.now)) c.round_with_rescue-found.result c.round_with_rescue-found.ensures.refused not_found_locked

pub returns-in_err-has_room_for_names-clause-refused_held : goal.returns-in_err-has_room_for_names-clause-refused_held
returns-in_err-has_room_for_names-clause-refused_held g c = λ honest.
    by-fault (IsLockedFault c.args.place.now.top.now (IsFindingFaultHeld (g.F.Folder.holds c.args.folder.now) (g.F.Folder.has c.args.folder.now) c.args.place.now.top.now c.args.options.now)) c.in_err-has_room_for_names.field-0.0
    (no_room_for_lock _ c.in_err-has_room_for_names.ensures.refused) c.from_residual.result c.from_residual.ensures.1

pub returns-in_err-lock-clause-refused_held : goal.returns-in_err-lock-clause-refused_held
returns-in_err-lock-clause-refused_held g c = λ honest.
    by-fault (IsLockedFault c.args.place.now.top.now (IsFindingFaultHeld (g.F.Folder.holds c.args.folder.now) (g.F.Folder.has c.args.folder.now) c.args.place.now.top.now c.args.options.now)) c.in_err-lock.field-0.0 (lock_refused _ c.in_err-lock.ensures.refused)
    c.from_residual-in_err-lock.result c.from_residual-in_err-lock.ensures.1

pub returns-clause-refused_held : goal.returns-clause-refused_held
returns-clause-refused_held g c = λ honest.
    weaker (IsLockedFault c.args.place.now.top.now (IsFindingFaultHeld (g.F.Folder.holds c.args.folder.now) (g.F.Folder.has c.args.folder.now) c.args.place.now.top.now c.args.options.now)) c.round_with_rescue-found.result (c.round_with_rescue-found.ensures.refused_held honest) not_found_locked

pub returns-in_err-has_room_for_names-clause-changes : goal.returns-in_err-has_room_for_names-clause-changes
returns-in_err-has_room_for_names-clause-changes g c = ([], not_locked, sym (append-nil c.args.changes.now))

pub returns-in_err-lock-clause-changes : goal.returns-in_err-lock-clause-changes
returns-in_err-lock-clause-changes g c = ([], not_locked, c.in_err-lock.ensures.no_change ∙ sym (append-nil c.args.changes.now))

pub returns-clause-changes : goal.returns-clause-changes
returns-clause-changes g c =
    let top = c.args.place.now.top.now in
    (locks top ++ unlocks, looked_locked, made-after (locks top) unlocks c.args.changes.now c.lock.new.changes c.unlock.new.changes c.in_ok-lock.ensures.changes c.unlock.ensures)
