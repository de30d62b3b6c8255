use Rattle.std.proofs.Common.{◌∙◌, Bool, subst, sym}
use Rattle.std.proofs.lemmas.Result.{IfErr-weaker}
use Rattle.dag_main_args.specs.Requests.{checks}
use Rattle.dagrun.specs.Answered.{AreHints, of_held_files}
use Rattle.dagrun.proofs.Checks.{plain_check, at_once}
use Rattle.dagrun.proofs.checking.check.Goals as goal

pub returns-else-any-clause-answered : goal.returns-else-any-clause-answered
returns-else-any-clause-answered g c = plain_check _ _ c.checked.result c.checked.ensures.answered

pub returns-else-any-clause-held : goal.returns-else-any-clause-held
returns-else-any-clause-held g c = λ honest. plain_check _ _ c.checked.result
    (at_once c.args.all c.args.form _ (g.F.Folder.holds c.args.folder.now) c.args.dag.now c.checked.result (c.checked.ensures.held honest))

pub returns-else-any-clause-refused_held : goal.returns-else-any-clause-refused_held
returns-else-any-clause-refused_held g c = λ honest. IfErr-weaker c.checked.result _ _ of_held_files (c.checked.ensures.refused_held honest)

pub returns-then-any-clause-hinted : goal.returns-then-any-clause-hinted
returns-then-any-clause-hinted g c = λ json honest.
    subst (λ (hinted : Bool). AreHints (checks c.args.dag.now c.args.all json hinted) c.check_with_hints.result (g.C.Console.shown c.args.console.now)
    (g.C.Console.shown c.check_with_hints.new.console)) (sym c.if-any.true ∙ c.any.ensures) (c.check_with_hints.ensures.hinted json honest)
