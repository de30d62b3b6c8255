use Rattle.std.proofs.Common.{None}
use Rattle.splices_flat.specs.FileSet.{bytes_of}
use Rattle.dag_main_check.specs.declared.fault.RunFault.TheVariants.{Memory}
use Rattle.dag_main_files.specs.Beside.{input_had_no_memory}
use Rattle.dag_main_files.proofs.RunFaults.{by-fault}
use Rattle.folder_answers.specs.Answered.{IsCheckRefusal, IsCheckRefusalFrom, held_not_read}
use Rattle.folder_answers.proofs.Held.{refused-of-some, still-refused}
use Rattle.dag_main_check.proofs.HeldFiles.{checked}
use Rattle.folder_answers.proofs.check_here.Goals as goal

pub returns-in_err-files-clause-refused : goal.returns-in_err-files-clause-refused
returns-in_err-files-clause-refused g c =
    by-fault (IsCheckRefusal c.args.top.now) c.in_err-files.field-0.0 ((λ path. None), held_not_read _ c.in_err-files.ensures.refused) c.from_residual.result c.from_residual.ensures.1

pub returns-in_err-files-clause-refused_held : goal.returns-in_err-files-clause-refused_held
returns-in_err-files-clause-refused_held g c = λ honest.
    by-fault (IsCheckRefusalFrom (g.F.Folder.holds c.args.folder.now) c.args.top.now) c.in_err-files.field-0.0 (held_not_read _ c.in_err-files.ensures.refused) c.from_residual.result c.from_residual.ensures.1

pub returns-in-Ok-clause-checked : goal.returns-in-Ok-clause-checked
returns-in-Ok-clause-checked g c = (c.loop.files, c.in-Ok.ensures.checked)

pub returns-in-Ok-clause-held : goal.returns-in-Ok-clause-held
returns-in-Ok-clause-held g c = λ honest. checked (bytes_of c.loop.files) (g.F.Folder.holds c.args.folder.now) (c.loop.invariant honest).held c.args.form c.args.top.now _ _ _ c.in-Ok.ensures.checked

pub returns-in_err-read_missing-in-Err-clause-refused : goal.returns-in_err-read_missing-in-Err-clause-refused
returns-in_err-read_missing-in-Err-clause-refused g c =
    by-fault (IsCheckRefusal c.args.top.now) c.in_err-read_missing-in-Err.field-0.0
    (refused-of-some c.args.top.now c.loop.files c.in-Err.fault _ c.in-Err.ensures.refused c.in_err-read_missing-in-Err.ensures.refused)
    c.from_residual-in_err-read_missing-in-Err.result c.from_residual-in_err-read_missing-in-Err.ensures.1

pub returns-in_err-read_missing-in-Err-clause-refused_held : goal.returns-in_err-read_missing-in-Err-clause-refused_held
returns-in_err-read_missing-in-Err-clause-refused_held g c = λ honest.
    by-fault (IsCheckRefusalFrom (g.F.Folder.holds c.args.folder.now) c.args.top.now) c.in_err-read_missing-in-Err.field-0.0
    (still-refused (g.F.Folder.holds c.args.folder.now) c.args.top.now c.loop.files (c.loop.invariant honest) c.in-Err.fault _ c.in-Err.ensures.refused (c.in_err-read_missing-in-Err.ensures.refused_held honest))
    c.from_residual-in_err-read_missing-in-Err.result c.from_residual-in_err-read_missing-in-Err.ensures.1

pub returns-clause-refused : goal.returns-clause-refused
returns-clause-refused g c = ((λ path. None), held_not_read Memory input_had_no_memory)

pub returns-clause-refused_held : goal.returns-clause-refused_held
returns-clause-refused_held g c = λ honest. held_not_read Memory input_had_no_memory
