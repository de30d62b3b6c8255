use Rattle.std.proofs.Common.{Bool, IfOk, string_bytes, sym, subst}
use Rattle.dagrun.specs.Answered.{checks_in}
use Rattle.dagrun.proofs.checking.checked.Goals as goal

pub returns-then-all-clause-held : goal.returns-then-all-clause-held
returns-then-all-clause-held g c = λ honest.
    subst (λ (all : Bool). IfOk c.check_all_here.result (λ answer. checks_in all c.args.form (g.F.Folder.holds c.args.folder.now) c.args.dag.now
    (string_bytes answer.text) (string_bytes answer.warnings) answer.status)) (sym c.if-all.true) (c.check_all_here.ensures.held honest)

pub returns-else-all-clause-held : goal.returns-else-all-clause-held
returns-else-all-clause-held g c = λ honest.
    subst (λ (all : Bool). IfOk c.check_here.result (λ answer. checks_in all c.args.form (g.F.Folder.holds c.args.folder.now) c.args.dag.now
    (string_bytes answer.text) (string_bytes answer.warnings) answer.status)) (sym c.if-all.false) (c.check_here.ensures.held honest)
