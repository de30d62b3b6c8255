use Rattle.std.proofs.Common.{◌≡◌, None, subst, sym, ◌∙◌}
use Rattle.dag_main_check.specs.declared.fault.RunFault.TheVariants.{Memory}
use Rattle.dag_main_files.specs.Beside.{IsInputFault, input_had_no_memory}
use Rattle.dag_main_files.proofs.RunFaults.{by-fault}
use Rattle.fault_list.specs.FaultPlaces.{fault_place}
use Rattle.folder_answers.specs.Answered.{IsCheckRefusal, IsCheckRefusalFrom, held_not_read}
use Rattle.folder_answers.proofs.Held.{refused-of-some, still-refused}
use Rattle.folder_answers.proofs.AllHeld.{all-held, still-has-no-line}
use Rattle.folder_answers.proofs.check_all_here.Goals as goal

pub returns-in_err-found-clause-refused : goal.returns-in_err-found-clause-refused
returns-in_err-found-clause-refused g c =
    by-fault (IsCheckRefusal c.args.top.now) c.in_err-found.field-0.0 ((λ path. None), held_not_read _ c.in_err-found.ensures.refused) c.from_residual.result c.from_residual.ensures.1

pub returns-in_err-found-clause-refused_held : goal.returns-in_err-found-clause-refused_held
returns-in_err-found-clause-refused_held g c = λ honest.
    by-fault (IsCheckRefusalFrom (g.F.Folder.holds c.args.folder.now) c.args.top.now) c.in_err-found.field-0.0 (held_not_read _ c.in_err-found.ensures.refused) c.from_residual.result c.from_residual.ensures.1

pub returns-in_err-files-clause-refused : goal.returns-in_err-files-clause-refused
returns-in_err-files-clause-refused g c =
    by-fault (IsCheckRefusal c.args.top.now) c.in_err-files.field-0.0
    ((λ path. None), held_not_read _ (subst (IsInputFault c.args.top.now) (sym c.in_err-files.ensures.err) input_had_no_memory))
    c.from_residual-in_err-files.result c.from_residual-in_err-files.ensures.1

pub returns-in_err-files-clause-refused_held : goal.returns-in_err-files-clause-refused_held
returns-in_err-files-clause-refused_held g c = λ honest.
    by-fault (IsCheckRefusalFrom (g.F.Folder.holds c.args.folder.now) c.args.top.now) c.in_err-files.field-0.0
    (held_not_read _ (subst (IsInputFault c.args.top.now) (sym c.in_err-files.ensures.err) input_had_no_memory))
    c.from_residual-in_err-files.result c.from_residual-in_err-files.ensures.1

pub returns-in-Ok-clause-held : goal.returns-in-Ok-clause-held
returns-in-Ok-clause-held g c = λ honest.
    all-held c.args.form (g.F.Folder.holds c.args.folder.now) c.args.top.now c.in_ok-files.files _ _ _ (c.in_ok-files.ensures.read honest (c.as_deref.ensures.value ∙ c.loop.invariant honest)) c.in-Ok.ensures.checked

pub returns-in_err-read_missing-in-Err-clause-refused : goal.returns-in_err-read_missing-in-Err-clause-refused
returns-in_err-read_missing-in-Err-clause-refused g c =
    by-fault (IsCheckRefusal c.args.top.now) c.in_err-read_missing-in-Err.field-0.0
    (refused-of-some c.args.top.now c.in_ok-files.files c.in-Err.refusal _ c.in-Err.ensures.refused.is_fault c.in_err-read_missing-in-Err.ensures.refused)
    c.from_residual-in_err-read_missing-in-Err.result c.from_residual-in_err-read_missing-in-Err.ensures.1

pub returns-in_err-read_missing-in-Err-clause-has_no_line : goal.returns-in_err-read_missing-in-Err-clause-has_no_line
returns-in_err-read_missing-in-Err-clause-has_no_line g c =
    by-fault (λ fault. fault_place fault ≡ None) c.in_err-read_missing-in-Err.field-0.0
    (still-has-no-line (λ _. None) c.in-Err.refusal _ c.in-Err.ensures.refused.has_no_line c.in_err-read_missing-in-Err.ensures.refused)
    c.from_residual-in_err-read_missing-in-Err.result c.from_residual-in_err-read_missing-in-Err.ensures.1

pub returns-in_err-read_missing-in-Err-clause-refused_held : goal.returns-in_err-read_missing-in-Err-clause-refused_held
returns-in_err-read_missing-in-Err-clause-refused_held g c = λ honest.
    by-fault (IsCheckRefusalFrom (g.F.Folder.holds c.args.folder.now) c.args.top.now) c.in_err-read_missing-in-Err.field-0.0
    (still-refused (g.F.Folder.holds c.args.folder.now) c.args.top.now c.in_ok-files.files (c.in_ok-files.ensures.read honest (c.as_deref.ensures.value ∙ c.loop.invariant honest))
    c.in-Err.refusal _ c.in-Err.ensures.refused.is_fault (c.in_err-read_missing-in-Err.ensures.refused_held honest))
    c.from_residual-in_err-read_missing-in-Err.result c.from_residual-in_err-read_missing-in-Err.ensures.1

pub returns-in_err-found-2-clause-refused : goal.returns-in_err-found-2-clause-refused
returns-in_err-found-2-clause-refused g c =
    by-fault (IsCheckRefusal c.args.top.now) c.in_err-found-2.field-0.0 ((λ path. None), held_not_read _ c.in_err-found-2.ensures.refused)
    c.from_residual-in_err-found-2.result c.from_residual-in_err-found-2.ensures.1

pub returns-in_err-found-2-clause-refused_held : goal.returns-in_err-found-2-clause-refused_held
returns-in_err-found-2-clause-refused_held g c = λ honest.
    by-fault (IsCheckRefusalFrom (g.F.Folder.holds c.args.folder.now) c.args.top.now) c.in_err-found-2.field-0.0 (held_not_read _ c.in_err-found-2.ensures.refused)
    c.from_residual-in_err-found-2.result c.from_residual-in_err-found-2.ensures.1

pub returns-clause-refused : goal.returns-clause-refused
returns-clause-refused g c = ((λ path. None), held_not_read Memory input_had_no_memory)

pub returns-clause-refused_held : goal.returns-clause-refused_held
returns-clause-refused_held g c = λ honest. held_not_read Memory input_had_no_memory
