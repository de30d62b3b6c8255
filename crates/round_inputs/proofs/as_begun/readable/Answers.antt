use Rattle.std.proofs.Common.{◌∙◌, ap, sym, subst}
use Rattle.dag_main_files.specs.Beside.{IsRefusalHeld}
use Rattle.round_inputs.proofs.Kept.{refused-unheld}
use Rattle.round_inputs.proofs.as_begun.readable.Goals as goal

pub returns-in-Err-FileRefused-clause-held : goal.returns-in-Err-FileRefused-clause-held
returns-in-Err-FileRefused-clause-held g c = λ honest.
    sym (refused-unheld (g.F.Folder.holds c.args.folder.now) c.as_str.result.now c.in-Err-FileRefused.field-0-0
    (subst (IsRefusalHeld (g.F.Folder.holds c.args.folder.now) c.as_str.result.now) c.in-Err-FileRefused.field-0-is (c.in-Err-FileRefused.ensures.unheld honest)))
    ∙ ap (g.F.Folder.holds c.args.folder.now) c.as_str.ensures
