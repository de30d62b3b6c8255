use Rattle.std.proofs.Common.{None, true, refl}
use Rattle.dag_main_files.proofs.RunFaults.{by-fault}
use Rattle.dag_main_args.specs.Requests.{checks}
use Rattle.folder_answers.specs.Answered.{IsCheckRefusal, held_not_read}
use Rattle.dagrun.specs.Answered.{IsCheckRefusalHeld, of_held_files, of_files_read_once}
use Rattle.dagrun.proofs.Requests.{no-hints}
use Rattle.dagrun.proofs.Checks.{hints_behind, read_once}
use Rattle.dagrun.proofs.checking.check_with_hints.Goals as goal

pub returns-in_err-files-clause-refused : goal.returns-in_err-files-clause-refused
returns-in_err-files-clause-refused g c = by-fault (IsCheckRefusal c.args.dag.now) c.in_err-files.field-0.0
    ((λ file. None), held_not_read _ c.in_err-files.ensures.refused) c.from_residual.result c.from_residual.ensures.1

pub returns-in-Ok-reply-clause-checked : goal.returns-in-Ok-reply-clause-checked
returns-in-Ok-reply-clause-checked g c =
    hints_behind _ c.in-Ok-reply.answer c.with_hints.result _ c.in-Ok-reply.ensures.answered c.with_hints.ensures.text c.with_hints.ensures.status c.with_hints.ensures.warnings

pub returns-in-Ok-reply-clause-held : goal.returns-in-Ok-reply-clause-held
returns-in-Ok-reply-clause-held g c = λ honest.
    hints_behind _ c.in-Ok-reply.answer c.with_hints.result _
    (read_once c.args.all c.args.form c.in_ok-files.files (g.F.Folder.holds c.args.folder.now) c.args.dag.now (c.in_ok-files.ensures.read honest) _ _ _ (c.in-Ok-reply.ensures.held tt))
    c.with_hints.ensures.text c.with_hints.ensures.status c.with_hints.ensures.warnings

pub returns-in_err-files-clause-hinted : goal.returns-in_err-files-clause-hinted
returns-in_err-files-clause-hinted g c = λ json honest. no-hints (checks c.args.dag.now c.args.all json true) c.from_residual.result (g.C.Console.shown c.args.console.now)

pub returns-in_err-files-clause-refused_held : goal.returns-in_err-files-clause-refused_held
returns-in_err-files-clause-refused_held g c = λ honest. by-fault (IsCheckRefusalHeld true (g.F.Folder.holds c.args.folder.now) c.args.dag.now) c.in_err-files.field-0.0
    (of_held_files _ (held_not_read _ c.in_err-files.ensures.refused)) c.from_residual.result c.from_residual.ensures.1

pub returns-clause-refused_held : goal.returns-clause-refused_held
returns-clause-refused_held g c = λ honest. of_files_read_once c.in_ok-files.files _ refl (c.in_ok-files.ensures.read honest) (c.in-Err-reply.ensures.refused_held tt)
