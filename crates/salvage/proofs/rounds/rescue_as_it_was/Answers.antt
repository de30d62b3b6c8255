use Rattle.salvage.specs.Others.{IsOther, other_file, other_marks}
use Rattle.salvage.specs.Sight.{held_files_if}
use Rattle.salvage.proofs.Results.{if-ok}
use Rattle.salvage.proofs.Refusals.{told-as, weaker-as}
use Rattle.salvage.proofs.rounds.rescue_as_it_was.Goals as goal

pub returns-in_err-check_files-clause-refused : goal.returns-in_err-check_files-clause-refused
returns-in_err-check_files-clause-refused g c =
    told-as (IsOther (held_files_if (g.F.Folder.honest c.args.folder.now) (g.F.Folder.holds c.args.folder.now) (g.F.Folder.has c.args.folder.now) c.args.top.now) c.args.inputs.now.files.items c.args.top.now c.args.used c.args.files.now) c.in_err-check_files.field-0.0
    (other_file _ c.in_err-check_files.ensures.refused) c.from_residual.result c.from_residual.ensures.1

pub returns-clause-files : goal.returns-clause-files
returns-clause-files g c = if-ok _ _ c.rescue_in.result c.rescue_in.ensures.same (λ bytes same. c.in_ok-check_files.ensures.same)

pub returns-clause-refused : goal.returns-clause-refused
returns-clause-refused g c =
    weaker-as (IsOther (held_files_if (g.F.Folder.honest c.args.folder.now) (g.F.Folder.holds c.args.folder.now) (g.F.Folder.has c.args.folder.now) c.args.top.now) c.args.inputs.now.files.items c.args.top.now c.args.used c.args.files.now) c.rescue_in.result c.rescue_in.ensures.refused
    (λ fault is. other_marks fault c.in_ok-check_files.ensures.same is)
