use Rattle.std.proofs.Common.{refl}
use Rattle.dag_main_check.specs.Consoles.{printed, not_printed, whole}
use Rattle.dag_main_check.proofs.Lines.{printed-behind, refused-output}
use Rattle.dag_main_check.proofs.display.display_answer.Goals as goal

pub returns-in-Ok-clause-status : goal.returns-in-Ok-clause-status
returns-in-Ok-clause-status g c = printed c.args.answer.now refl

pub returns-in-Ok-clause-shown : goal.returns-in-Ok-clause-shown
returns-in-Ok-clause-shown g c = λ honest.
    whole (printed-behind _ _ _ _ _ _ _ (c.warn.ensures.warned (c.print.ensures.back honest)) c.as_str.ensures.value (c.in-Ok.ensures.printed honest) c.as_str-2.ensures.value)

pub returns-in-Ok-format-clause-status : goal.returns-in-Ok-format-clause-status
returns-in-Ok-format-clause-status g c = not_printed

pub returns-in-Ok-format-clause-shown : goal.returns-in-Ok-format-clause-shown
returns-in-Ok-format-clause-shown g c = λ honest. let after = c.warn-in-Ok-format.ensures.back honest in
    refused-output _ _ _ _ _ _ _ (c.warn.ensures.warned (c.print.ensures.back after)) c.as_str.ensures.value (c.in-Err.ensures.refused after)
    (c.print.ensures.warned after) (c.print.ensures.at_terminal after) (c.warn-in-Ok-format.ensures.warned honest)

pub returns-in-Err-format-clause-status : goal.returns-in-Err-format-clause-status
returns-in-Err-format-clause-status g c = not_printed

pub returns-in-Err-format-clause-shown : goal.returns-in-Err-format-clause-shown
returns-in-Err-format-clause-shown g c = λ honest. let after = c.warn-in-Err-format.ensures.back honest in
    refused-output _ _ _ _ _ _ _ (c.warn.ensures.warned (c.print.ensures.back after)) c.as_str.ensures.value (c.in-Err.ensures.refused after)
    (c.print.ensures.warned after) (c.print.ensures.at_terminal after) (c.warn-in-Err-format.ensures.warned honest)
