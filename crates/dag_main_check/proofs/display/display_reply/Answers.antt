use Rattle.std.proofs.Common.{Result, Err, sym, subst}
use Rattle.dag_main_check.specs.declared.fault.RunFault.{RunFault}
use Rattle.dag_main_check.specs.declared.warnings.Answer.{Answer}
use Rattle.dag_main_check.specs.Consoles.{IsExitStatusOf, not_printed, IsDisplayedAs, answered, refused}
use Rattle.dag_main_check.proofs.display.display_reply.Goals as goal

pub returns-in-Ok-clause-shown : goal.returns-in-Ok-clause-shown
returns-in-Ok-clause-shown g c = λ honest.
    subst (λ (r : Result Answer RunFault). IsDisplayedAs (g.C.Console.shown c.args.console.now) (g.C.Console.shown c.display_answer.new.console) r c.display_answer.result) (sym c.in-Ok.is)
    (answered c.in-Ok.answer c.display_answer.result (c.display_answer.ensures.shown honest))

pub returns-in-Err-clause-status : goal.returns-in-Err-clause-status
returns-in-Err-clause-status g c = subst (IsExitStatusOf c.args.reply.now) (sym c.display_refusal.ensures.status) not_printed

pub returns-in-Err-clause-shown : goal.returns-in-Err-clause-shown
returns-in-Err-clause-shown g c = λ honest.
    subst (λ (r : Result Answer RunFault). IsDisplayedAs (g.C.Console.shown c.args.console.now) (g.C.Console.shown c.display_refusal.new.console) r c.display_refusal.result) (sym c.in-Err.is)
    (subst (IsDisplayedAs (g.C.Console.shown c.args.console.now) (g.C.Console.shown c.display_refusal.new.console) (Err c.in-Err.fault)) (sym c.display_refusal.ensures.status)
    (refused c.in-Err.fault (c.display_refusal.ensures.warned honest)))
