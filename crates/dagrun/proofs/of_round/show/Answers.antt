use Rattle.std.proofs.Common.{ap, sym, subst}
use Rattle.dag_main_args.specs.Requests.{shown_by}
use Rattle.dagrun.specs.Answered.{files_for_view, IsView, IsNoView}
use Rattle.dagrun.proofs.OfRound.{some-comes, some-unseen, held-comes, held-unseen}
use Rattle.dagrun.proofs.of_round.show.Goals as goal

pub returns-in_err-seen-clause-some : goal.returns-in_err-seen-clause-some
returns-in_err-seen-clause-some g c =
    some-unseen c.args.round.now.dag.now (λ may_hold. IsView may_hold c.args.round.now.dag.now (shown_by c.args.view)) (λ may_hold. IsNoView may_hold c.args.round.now.dag.now (shown_by c.args.view))
    c.files_for_view-by.result (files_for_view (shown_by c.args.view) c.args.round.now.as_begun) c.files_for_view-by.ensures c.in_err-seen.field-0.0
    c.in_err-seen.ensures.other c.in_err-seen.ensures.refused c.from_residual.result c.from_residual.ensures.1

pub returns-in_err-seen-clause-held : goal.returns-in_err-seen-clause-held
returns-in_err-seen-clause-held g c = λ honest.
    held-unseen c.args.round.now.dag.now (λ may_hold. IsView may_hold c.args.round.now.dag.now (shown_by c.args.view)) (λ may_hold. IsNoView may_hold c.args.round.now.dag.now (shown_by c.args.view))
    c.files_for_view-by.result (files_for_view (shown_by c.args.view) c.args.round.now.as_begun) c.files_for_view-by.ensures (g.F.Folder.holds c.args.folder.now) (g.F.Folder.has c.args.folder.now) c.in_err-seen.field-0.0
    (c.in_err-seen.ensures.refused_held honest) c.from_residual.result c.from_residual.ensures.1

pub returns-clause-some : goal.returns-clause-some
returns-clause-some g c = some-comes c.args.round.now.dag.now (λ may_hold. IsView may_hold c.args.round.now.dag.now (shown_by c.args.view)) (λ may_hold. IsNoView may_hold c.args.round.now.dag.now (shown_by c.args.view))
    c.files_for_view-by.result (files_for_view (shown_by c.args.view) c.args.round.now.as_begun) c.files_for_view-by.ensures c.view_of.result c.view_of.ensures.answered c.view_of.ensures.refused

pub returns-clause-held : goal.returns-clause-held
returns-clause-held g c = λ honest.
    let here = subst g.F.Folder.honest (sym c.in_ok-seen.ensures.folder) honest in
    held-comes c.args.round.now.dag.now (λ may_hold. IsView may_hold c.args.round.now.dag.now (shown_by c.args.view)) (λ may_hold. IsNoView may_hold c.args.round.now.dag.now (shown_by c.args.view))
    c.files_for_view-by.result (files_for_view (shown_by c.args.view) c.args.round.now.as_begun) c.files_for_view-by.ensures (g.F.Folder.holds c.args.folder.now) (g.F.Folder.has c.args.folder.now) c.in_ok-seen.seen.begun
    (c.in_ok-seen.ensures.held honest) (g.F.Folder.holds c.in_ok-seen.seen.folder.now) (ap g.F.Folder.holds c.in_ok-seen.ensures.folder)
    c.view_of.result (c.view_of.ensures.held here) (c.view_of.ensures.refused_held here)
