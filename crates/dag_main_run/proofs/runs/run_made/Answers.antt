use Rattle.std.proofs.Common.{refl}
use Rattle.std.specs.Option.{option_map}
use Rattle.dag_main_files.proofs.RunFaults.{by-fault}
use Rattle.dag_main_check.proofs.Refusals.{weaker}
use Rattle.dag_main_run.specs.Runs.{IsRunFault, IsRunFaultFrom, no_launcher, no_room, not_alone, not_held}
use Rattle.dag_main_run.specs.RunChanges.{found_where, left_unlocked}
use Rattle.dag_main_run.proofs.RunChanges.{is-refused, led-locked}
use Rattle.dag_main_run.proofs.RunPlans.{planned-some, planned-here, run-some, run-here}
use Rattle.dag_main_run.proofs.runs.run_made.Goals as goal

pub returns-in_err-launcher-clause-refused : goal.returns-in_err-launcher-clause-refused
returns-in_err-launcher-clause-refused g c =
    by-fault (IsRunFault _ c.args.place.now.top.now c.args.options.now) c.in_err-launcher.field-0.0
    (no_launcher c.in_err-launcher.field-0.0 (planned-some (g.H.Folder.honest c.args.site.now) (g.H.Folder.holds c.args.site.now) (g.H.Folder.has c.args.site.now) c.args.place.now.top.now c.args.options.now c.args.files.now c.args.made.now.found.0 (option_map (λ b. b.items) c.args.made.now.found.1) c.args.made.now.plan c.requires.planned) c.in_err-launcher.ensures.refused) c.from_residual.result c.from_residual.ensures.1

pub returns-in_err-launcher-clause-refused_held : goal.returns-in_err-launcher-clause-refused_held
returns-in_err-launcher-clause-refused_held g c = λ honest.
    by-fault (IsRunFaultFrom (g.H.Folder.holds c.args.site.now) (g.H.Folder.has c.args.site.now) _ c.args.place.now.top.now c.args.options.now) c.in_err-launcher.field-0.0
    (no_launcher c.in_err-launcher.field-0.0 (planned-here (g.H.Folder.honest c.args.site.now) (g.H.Folder.holds c.args.site.now) (g.H.Folder.has c.args.site.now) c.args.place.now.top.now c.args.options.now c.args.files.now c.args.made.now.found.0 (option_map (λ b. b.items) c.args.made.now.found.1) c.args.made.now.plan c.requires.planned honest) c.in_err-launcher.ensures.refused) c.from_residual.result c.from_residual.ensures.1

pub returns-in_err-has_room_for_names-clause-refused : goal.returns-in_err-has_room_for_names-clause-refused
returns-in_err-has_room_for_names-clause-refused g c =
    by-fault (IsRunFault _ c.args.place.now.top.now c.args.options.now) c.in_err-has_room_for_names.field-0.0
    (no_room c.in_err-has_room_for_names.field-0.0 (planned-some (g.H.Folder.honest c.args.site.now) (g.H.Folder.holds c.args.site.now) (g.H.Folder.has c.args.site.now) c.args.place.now.top.now c.args.options.now c.args.files.now c.args.made.now.found.0 (option_map (λ b. b.items) c.args.made.now.found.1) c.args.made.now.plan c.requires.planned) c.in_err-has_room_for_names.ensures.refused) c.from_residual-in_err-has_room_for_names.result c.from_residual-in_err-has_room_for_names.ensures.1

pub returns-in_err-has_room_for_names-clause-refused_held : goal.returns-in_err-has_room_for_names-clause-refused_held
returns-in_err-has_room_for_names-clause-refused_held g c = λ honest.
    by-fault (IsRunFaultFrom (g.H.Folder.holds c.args.site.now) (g.H.Folder.has c.args.site.now) _ c.args.place.now.top.now c.args.options.now) c.in_err-has_room_for_names.field-0.0
    (no_room c.in_err-has_room_for_names.field-0.0 (planned-here (g.H.Folder.honest c.args.site.now) (g.H.Folder.holds c.args.site.now) (g.H.Folder.has c.args.site.now) c.args.place.now.top.now c.args.options.now c.args.files.now c.args.made.now.found.0 (option_map (λ b. b.items) c.args.made.now.found.1) c.args.made.now.plan c.requires.planned honest) c.in_err-has_room_for_names.ensures.refused) c.from_residual-in_err-has_room_for_names.result c.from_residual-in_err-has_room_for_names.ensures.1

pub returns-in_err-lock-clause-refused : goal.returns-in_err-lock-clause-refused
returns-in_err-lock-clause-refused g c =
    by-fault (IsRunFault _ c.args.place.now.top.now c.args.options.now) c.in_err-lock.field-0.0
    (not_alone c.in_err-lock.field-0.0 (planned-some (g.H.Folder.honest c.args.site.now) (g.H.Folder.holds c.args.site.now) (g.H.Folder.has c.args.site.now) c.args.place.now.top.now c.args.options.now c.args.files.now c.args.made.now.found.0 (option_map (λ b. b.items) c.args.made.now.found.1) c.args.made.now.plan c.requires.planned) c.in_err-lock.ensures.refused) c.from_residual-in_err-lock.result c.from_residual-in_err-lock.ensures.1

pub returns-in_err-lock-clause-refused_held : goal.returns-in_err-lock-clause-refused_held
returns-in_err-lock-clause-refused_held g c = λ honest.
    by-fault (IsRunFaultFrom (g.H.Folder.holds c.args.site.now) (g.H.Folder.has c.args.site.now) _ c.args.place.now.top.now c.args.options.now) c.in_err-lock.field-0.0
    (not_alone c.in_err-lock.field-0.0 (planned-here (g.H.Folder.honest c.args.site.now) (g.H.Folder.holds c.args.site.now) (g.H.Folder.has c.args.site.now) c.args.place.now.top.now c.args.options.now c.args.files.now c.args.made.now.found.0 (option_map (λ b. b.items) c.args.made.now.found.1) c.args.made.now.plan c.requires.planned honest) c.in_err-lock.ensures.refused) c.from_residual-in_err-lock.result c.from_residual-in_err-lock.ensures.1

pub returns-clause-run : goal.returns-clause-run
returns-clause-run g c =
    run-some (g.H.Folder.honest c.args.site.now) (g.H.Folder.holds c.args.site.now) (g.H.Folder.has c.args.site.now) c.args.place.now.top.now c.args.options.now c.args.files.now c.args.made.now.found.0 (option_map (λ b. b.items) c.args.made.now.found.1) c.args.made.now.plan c.requires.planned _ c.in_ok-launcher.launcher c.in_ok-launcher.ensures.launcher
    c.run_locked-answer.result c.run_locked-answer.ensures.led c.run_locked-answer.ensures.warnings

pub returns-clause-held : goal.returns-clause-held
returns-clause-held g c = λ honest.
    run-here (g.H.Folder.honest c.args.site.now) (g.H.Folder.holds c.args.site.now) (g.H.Folder.has c.args.site.now) c.args.place.now.top.now c.args.options.now c.args.files.now c.args.made.now.found.0 (option_map (λ b. b.items) c.args.made.now.found.1) c.args.made.now.plan c.requires.planned _ c.in_ok-launcher.launcher c.in_ok-launcher.ensures.launcher honest
    c.run_locked-answer.result c.run_locked-answer.ensures.led c.run_locked-answer.ensures.warnings

pub returns-clause-refused : goal.returns-clause-refused
returns-clause-refused g c =
    weaker (IsRunFault _ c.args.place.now.top.now c.args.options.now) c.run_locked-answer.result c.run_locked-answer.ensures.refused
    (λ fault is. not_held (planned-some (g.H.Folder.honest c.args.site.now) (g.H.Folder.holds c.args.site.now) (g.H.Folder.has c.args.site.now) c.args.place.now.top.now c.args.options.now c.args.files.now c.args.made.now.found.0 (option_map (λ b. b.items) c.args.made.now.found.1) c.args.made.now.plan c.requires.planned) c.in_ok-launcher.launcher fault c.in_ok-launcher.ensures.launcher is)

pub returns-clause-refused_held : goal.returns-clause-refused_held
returns-clause-refused_held g c = λ honest.
    weaker (IsRunFaultFrom (g.H.Folder.holds c.args.site.now) (g.H.Folder.has c.args.site.now) _ c.args.place.now.top.now c.args.options.now) c.run_locked-answer.result
    (c.run_locked-answer.ensures.refused_held honest)
    (λ fault is. not_held (planned-here (g.H.Folder.honest c.args.site.now) (g.H.Folder.holds c.args.site.now) (g.H.Folder.has c.args.site.now) c.args.place.now.top.now c.args.options.now c.args.files.now c.args.made.now.found.0 (option_map (λ b. b.items) c.args.made.now.found.1) c.args.made.now.plan c.requires.planned honest) c.in_ok-launcher.launcher fault c.in_ok-launcher.ensures.launcher is)

pub returns-in_err-launcher-clause-changes : goal.returns-in_err-launcher-clause-changes
returns-in_err-launcher-clause-changes g c = left_unlocked (is-refused _ c.from_residual.result c.from_residual.ensures.1) refl

pub returns-in_err-has_room_for_names-clause-changes : goal.returns-in_err-has_room_for_names-clause-changes
returns-in_err-has_room_for_names-clause-changes g c = left_unlocked (is-refused _ c.from_residual-in_err-has_room_for_names.result c.from_residual-in_err-has_room_for_names.ensures.1) refl

pub returns-in_err-lock-clause-changes : goal.returns-in_err-lock-clause-changes
returns-in_err-lock-clause-changes g c = left_unlocked (is-refused _ c.from_residual-in_err-lock.result c.from_residual-in_err-lock.ensures.1) c.in_err-lock.ensures.no_change

pub returns-clause-changes : goal.returns-clause-changes
returns-clause-changes g c =
    led-locked c.run_locked-answer.result (found_where (g.H.Folder.honest c.args.site.now) (g.H.Folder.holds c.args.site.now) (g.H.Folder.has c.args.site.now) c.args.place.now.top.now c.args.options.now) _
    c.args.place.now.top.now c.args.options.now c.args.files.now c.args.made.now.found.0 (option_map (λ b. b.items) c.args.made.now.found.1) c.args.made.now.plan c.in_ok-launcher.launcher
    c.args.changes.now c.lock.new.changes c.run_locked-answer.new.changes c.unlock.new.changes
    c.requires.planned c.in_ok-launcher.ensures.launcher c.in_ok-lock.ensures.changes c.run_locked-answer.ensures.changes c.unlock.ensures
