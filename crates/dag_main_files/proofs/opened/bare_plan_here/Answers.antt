use Rattle.splices_flat.specs.FileSet.{bytes_of}
use Rattle.dag_main_files.specs.Opened.{changing, fixed, IsRefusedFor, top_not_read, HasNoGraph}
use Rattle.dag_main_check.specs.declared.fault.RunFault.TheVariants.{Memory}
use Rattle.dag_main_files.specs.Beside.{input_had_no_memory}
use Rattle.dag_main_files.proofs.OpenedFiles.{own-files, bare-plan, no-graph, no-graph-of-some}
use Rattle.dag_main_files.proofs.RunFaults.{by-fault}
use Rattle.dag_main_files.proofs.opened.bare_plan_here.Goals as goal

pub returns-in_err-files-clause-refused : goal.returns-in_err-files-clause-refused
returns-in_err-files-clause-refused g c =
    by-fault (IsRefusedFor changing c.args.top.now (HasNoGraph c.args.top.now)) c.in_err-files.field-0.0 (top_not_read _ c.in_err-files.ensures.refused) c.from_residual.result c.from_residual.ensures.1

pub returns-in_err-files-clause-refused_held : goal.returns-in_err-files-clause-refused_held
returns-in_err-files-clause-refused_held g c = λ honest.
    by-fault (IsRefusedFor (fixed (g.F.Folder.holds c.args.folder.now)) c.args.top.now (HasNoGraph c.args.top.now)) c.in_err-files.field-0.0 (top_not_read _ c.in_err-files.ensures.refused) c.from_residual.result c.from_residual.ensures.1

pub returns-in-Ok-clause-plan : goal.returns-in-Ok-clause-plan
returns-in-Ok-clause-plan g c = record { holds = bytes_of c.loop.files; held = tt; files = c.loop.files; read = own-files c.loop.files c.args.top.now; says = c.in-Ok.ensures.plan }

pub returns-in-Ok-clause-held : goal.returns-in-Ok-clause-held
returns-in-Ok-clause-held g c = λ honest. bare-plan (g.F.Folder.holds c.args.folder.now) c.args.top.now c.loop.files (c.loop.invariant honest) c.args.always_post c.in-Ok.plan c.in-Ok.ensures.plan

pub returns-in_err-read_missing-in-Err-clause-refused : goal.returns-in_err-read_missing-in-Err-clause-refused
returns-in_err-read_missing-in-Err-clause-refused g c =
    by-fault (IsRefusedFor changing c.args.top.now (HasNoGraph c.args.top.now)) c.in_err-read_missing-in-Err.field-0.0
    (no-graph-of-some c.args.top.now c.loop.files c.in-Err.fault _ c.in-Err.ensures.refused c.in_err-read_missing-in-Err.ensures.refused)
    c.from_residual-in_err-read_missing-in-Err.result c.from_residual-in_err-read_missing-in-Err.ensures.1

pub returns-in_err-read_missing-in-Err-clause-refused_held : goal.returns-in_err-read_missing-in-Err-clause-refused_held
returns-in_err-read_missing-in-Err-clause-refused_held g c = λ honest.
    by-fault (IsRefusedFor (fixed (g.F.Folder.holds c.args.folder.now)) c.args.top.now (HasNoGraph c.args.top.now)) c.in_err-read_missing-in-Err.field-0.0
    (no-graph (g.F.Folder.holds c.args.folder.now) c.args.top.now c.loop.files (c.loop.invariant honest) c.in-Err.fault _ c.in-Err.ensures.refused (c.in_err-read_missing-in-Err.ensures.refused_held honest))
    c.from_residual-in_err-read_missing-in-Err.result c.from_residual-in_err-read_missing-in-Err.ensures.1

pub returns-clause-refused : goal.returns-clause-refused
returns-clause-refused g c = top_not_read Memory input_had_no_memory

pub returns-clause-refused_held : goal.returns-clause-refused_held
returns-clause-refused_held g c = λ honest. top_not_read Memory input_had_no_memory
