use Rattle.std.proofs.Common.{None}
use Rattle.std.specs.Option.{option_map}
use Rattle.splices_flat.specs.FileSet.{bytes_of}
use Rattle.dag_main_check.specs.declared.fault.RunFault.TheVariants.{Memory}
use Rattle.dag_main_files.specs.Beside.{input_had_no_memory}
use Rattle.dag_main_files.proofs.RunFaults.{by-fault}
use Rattle.folder_answers.specs.Answered.{IsRehearsalRefusal, IsRehearsalRefusalFrom, held_input_not_read}
use Rattle.folder_answers.proofs.Held.{not-rehearsed-of-some, still-not-rehearsed, rehearsed}
use Rattle.folder_answers.proofs.rehearse_here.Goals as goal

pub returns-in_err-files-clause-refused : goal.returns-in_err-files-clause-refused
returns-in_err-files-clause-refused g c =
    by-fault (IsRehearsalRefusal c.args.always_post c.args.top.now (option_map (λ b. b.now) c.args.table) c.args.limits) c.in_err-files.field-0.0 ((λ path. None), held_input_not_read _ c.in_err-files.ensures.refused) c.from_residual.result c.from_residual.ensures.1

pub returns-in_err-files-clause-refused_held : goal.returns-in_err-files-clause-refused_held
returns-in_err-files-clause-refused_held g c = λ honest.
    by-fault (IsRehearsalRefusalFrom c.args.always_post (g.F.Folder.holds c.args.folder.now) c.args.top.now (option_map (λ b. b.now) c.args.table) c.args.limits) c.in_err-files.field-0.0 (held_input_not_read _ c.in_err-files.ensures.refused) c.from_residual.result c.from_residual.ensures.1

pub returns-in-Ok-clause-report : goal.returns-in-Ok-clause-report
returns-in-Ok-clause-report g c = (c.loop.files, c.in-Ok.ensures.report)

pub returns-in-Ok-clause-held : goal.returns-in-Ok-clause-held
returns-in-Ok-clause-held g c = λ honest. rehearsed (bytes_of c.loop.files) (g.F.Folder.holds c.args.folder.now) (c.loop.invariant honest).held _ c.args.top.now _ _ _ _ _ c.in-Ok.ensures.report

pub returns-in_err-read_missing-in-Err-clause-refused : goal.returns-in_err-read_missing-in-Err-clause-refused
returns-in_err-read_missing-in-Err-clause-refused g c =
    by-fault (IsRehearsalRefusal c.args.always_post c.args.top.now (option_map (λ b. b.now) c.args.table) c.args.limits) c.in_err-read_missing-in-Err.field-0.0
    (not-rehearsed-of-some c.args.always_post c.args.top.now (option_map (λ b. b.now) c.args.table) c.args.limits c.loop.files c.in-Err.fault _ c.in-Err.ensures.refused c.in_err-read_missing-in-Err.ensures.refused)
    c.from_residual-in_err-read_missing-in-Err.result c.from_residual-in_err-read_missing-in-Err.ensures.1

pub returns-in_err-read_missing-in-Err-clause-refused_held : goal.returns-in_err-read_missing-in-Err-clause-refused_held
returns-in_err-read_missing-in-Err-clause-refused_held g c = λ honest.
    by-fault (IsRehearsalRefusalFrom c.args.always_post (g.F.Folder.holds c.args.folder.now) c.args.top.now (option_map (λ b. b.now) c.args.table) c.args.limits) c.in_err-read_missing-in-Err.field-0.0
    (still-not-rehearsed c.args.always_post (g.F.Folder.holds c.args.folder.now) c.args.top.now (option_map (λ b. b.now) c.args.table) c.args.limits c.loop.files (c.loop.invariant honest) c.in-Err.fault _ c.in-Err.ensures.refused (c.in_err-read_missing-in-Err.ensures.refused_held honest))
    c.from_residual-in_err-read_missing-in-Err.result c.from_residual-in_err-read_missing-in-Err.ensures.1

pub returns-clause-refused : goal.returns-clause-refused
returns-clause-refused g c = ((λ path. None), held_input_not_read Memory input_had_no_memory)

pub returns-clause-refused_held : goal.returns-clause-refused_held
returns-clause-refused_held g c = λ honest. held_input_not_read Memory input_had_no_memory
