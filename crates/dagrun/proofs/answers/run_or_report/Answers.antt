use Rattle.std.proofs.Common.{◌≡◌, refl, Bool, Option, Some, None, true, false, sym, ◌∙◌, subst}
use Rattle.std.specs.Prelude.{IfSome, IfNone}
use Rattle.std.proofs.lemmas.Bool.{false≢true}
use Rattle.std.proofs.lemmas.Result.{IfOk-weaker, IfErr-weaker}
use Rattle.dag_main_run.specs.Sites.{rounds_at}
use Rattle.dagrun.specs.Answered.{changing_files, held_in, run_contract, not_run, not_reported, led, reported_again}
use Rattle.dagrun.specs.Changes.{only_reported, ran}
use Rattle.dagrun.proofs.Worlds.{comes-to, refused-to}
use Rattle.dagrun.proofs.answers.run_or_report.Goals as goal

at-some : {A : Type 0} (P : A → Type 0) (o : Option A) (x : A) → o ≡ Some x → IfSome o P → P x
at-some P o x is holds = subst (λ o. IfSome o P) is holds

at-none : {A : Type 0} (P : Type 0) (o : Option A) → o ≡ None → IfNone o P → P
at-none P o is holds = subst (λ o. IfNone o P) is holds

not-both : (b : Bool) (P : Type 0) → b ≡ false → b ≡ true → P
not-both b P isnt is = absurd (false≢true (sym isnt ∙ is))

pub returns-then-not-options-clause-some : goal.returns-then-not-options-clause-some
returns-then-not-options-clause-some g c = λ unstreamed.
    comes-to (run_contract changing_files (rounds_at g.F.Journal.Disk g.F.Rescue.Disk (g.F.Site.own c.args.folder.now) (g.F.Folder.honest c.args.folder.now) (g.F.Folder.holds c.args.folder.now)) c.args.dag.now c.args.options.now) c.run_dag.result
    (IfOk-weaker c.run_dag.result _ _ (λ answer is. led (not-both _ _ c.if-not-options.true) is) c.run_dag.ensures.run)
    (IfErr-weaker c.run_dag.result _ _ (λ fault why. not_run fault (not-both _ _ c.if-not-options.true) why) (c.run_dag.ensures.refused unstreamed))

pub returns-then-not-options-clause-held : goal.returns-then-not-options-clause-held
returns-then-not-options-clause-held g c = λ honest unstreamed.
    comes-to (run_contract (held_in (g.F.Folder.holds c.args.folder.now) (g.F.Folder.has c.args.folder.now)) (rounds_at g.F.Journal.Disk g.F.Rescue.Disk (g.F.Site.own c.args.folder.now) (g.F.Folder.honest c.args.folder.now) (g.F.Folder.holds c.args.folder.now)) c.args.dag.now c.args.options.now) c.run_dag.result
    (IfOk-weaker c.run_dag.result _ _ (λ answer is. led (not-both _ _ c.if-not-options.true) is) (c.run_dag.ensures.held honest))
    (IfErr-weaker c.run_dag.result _ _ (λ fault why. not_run fault (not-both _ _ c.if-not-options.true) why) (c.run_dag.ensures.refused_held unstreamed honest))

pub returns-in_err-told-clause-some : goal.returns-in_err-told-clause-some
returns-in_err-told-clause-some g c = λ unstreamed.
    refused-to (run_contract changing_files (rounds_at g.F.Journal.Disk g.F.Rescue.Disk (g.F.Site.own c.args.folder.now) (g.F.Folder.honest c.args.folder.now) (g.F.Folder.holds c.args.folder.now)) c.args.dag.now c.args.options.now)
    c.in_err-told.field-0.0 (not_reported _ c.if-not-options.false c.in_err-told.ensures.refused) c.from_residual.result c.from_residual.ensures.1

pub returns-in_err-told-clause-held : goal.returns-in_err-told-clause-held
returns-in_err-told-clause-held g c = λ honest unstreamed.
    refused-to (run_contract (held_in (g.F.Folder.holds c.args.folder.now) (g.F.Folder.has c.args.folder.now)) (rounds_at g.F.Journal.Disk g.F.Rescue.Disk (g.F.Site.own c.args.folder.now) (g.F.Folder.honest c.args.folder.now) (g.F.Folder.holds c.args.folder.now)) c.args.dag.now c.args.options.now)
    c.in_err-told.field-0.0 (not_reported _ c.if-not-options.false (c.in_err-told.ensures.refused_held honest)) c.from_residual.result c.from_residual.ensures.1

pub returns-in-Some-clause-some : goal.returns-in-Some-clause-some
returns-in-Some-clause-some g c = λ unstreamed. reported_again c.if-not-options.false (at-some _ _ _ c.in-Some.is c.in_ok-told.ensures.report)

pub returns-in-Some-clause-held : goal.returns-in-Some-clause-held
returns-in-Some-clause-held g c = λ honest unstreamed. reported_again c.if-not-options.false (at-some _ _ _ c.in-Some.is (c.in_ok-told.ensures.held honest))

pub returns-in-None-clause-some : goal.returns-in-None-clause-some
returns-in-None-clause-some g c = λ unstreamed.
    comes-to (run_contract changing_files (rounds_at g.F.Journal.Disk g.F.Rescue.Disk (g.F.Site.own c.args.folder.now) (g.F.Folder.honest c.args.folder.now) (g.F.Folder.holds c.args.folder.now)) c.args.dag.now c.args.options.now) c.run_dag-in-None.result
    (IfOk-weaker c.run_dag-in-None.result _ _ (λ answer is. led (λ asked. at-none _ _ c.in-None.is c.in_ok-told.ensures.none) is) c.run_dag-in-None.ensures.run)
    (IfErr-weaker c.run_dag-in-None.result _ _ (λ fault why. not_run fault (λ asked. at-none _ _ c.in-None.is c.in_ok-told.ensures.none) why) (c.run_dag-in-None.ensures.refused unstreamed))

pub returns-in-None-clause-held : goal.returns-in-None-clause-held
returns-in-None-clause-held g c = λ honest unstreamed.
    comes-to (run_contract (held_in (g.F.Folder.holds c.args.folder.now) (g.F.Folder.has c.args.folder.now)) (rounds_at g.F.Journal.Disk g.F.Rescue.Disk (g.F.Site.own c.args.folder.now) (g.F.Folder.honest c.args.folder.now) (g.F.Folder.holds c.args.folder.now)) c.args.dag.now c.args.options.now) c.run_dag-in-None.result
    (IfOk-weaker c.run_dag-in-None.result _ _ (λ answer is. led (λ asked. at-none _ _ c.in-None.is (c.in_ok-told.ensures.none_held honest)) is) (c.run_dag-in-None.ensures.held honest))
    (IfErr-weaker c.run_dag-in-None.result _ _ (λ fault why. not_run fault (λ asked. at-none _ _ c.in-None.is (c.in_ok-told.ensures.none_held honest)) why)
    (c.run_dag-in-None.ensures.refused_held unstreamed honest))

pub returns-then-not-options-clause-changes : goal.returns-then-not-options-clause-changes
returns-then-not-options-clause-changes g c = ran c.run_dag.ensures.changes

pub returns-in_err-told-clause-changes : goal.returns-in_err-told-clause-changes
returns-in_err-told-clause-changes g c = only_reported c.if-not-options.false refl

pub returns-in-Some-clause-changes : goal.returns-in-Some-clause-changes
returns-in-Some-clause-changes g c = only_reported c.if-not-options.false refl

pub returns-in-None-clause-changes : goal.returns-in-None-clause-changes
returns-in-None-clause-changes g c = ran c.run_dag-in-None.ensures.changes
