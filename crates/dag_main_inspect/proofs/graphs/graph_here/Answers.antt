use Rattle.std.proofs.Common.{rules}
use Rattle.dag_main_check.proofs.Refusals.{weaker}
use Rattle.dag_main_files.specs.Opened.{changing, fixed}
use Rattle.dag_main_files.proofs.RunFaults.{by-fault}
use Rattle.dag_main_inspect.specs.Drawn.{IsJournalDrawnFault}
use Rattle.dag_main_inspect.specs.Statused.{journal_bytes}
use Rattle.dag_main_inspect.specs.LastRound.{not_opened}
use Rattle.dag_main_inspect.specs.Asked.{IsNotDrawn, no_round_to_draw, no_graph_alone, not_by_journal}
use Rattle.dag_main_inspect.proofs.Rounds.{refused-of-round, without-journal}
use Rattle.dag_main_inspect.proofs.graphs.graph_here.Goals as goal

pub returns-in_err-round-clause-refused : goal.returns-in_err-round-clause-refused
returns-in_err-round-clause-refused g c =
    by-fault (IsNotDrawn changing c.args.top.now) c.in_err-round.field-0.0 (no_round_to_draw _ c.in_err-round.ensures.refused) c.from_residual.result c.from_residual.ensures.1

pub returns-in_err-opened-clause-refused : goal.returns-in_err-opened-clause-refused
returns-in_err-opened-clause-refused g c =
    by-fault (IsNotDrawn changing c.args.top.now) c.in_err-opened.field-0.0 (not_by_journal _ (not_opened _ (c.in_err-opened.ensures.refused c.in_ok-round.ensures.round)))
    c.from_residual-in_err-opened.result c.from_residual-in_err-opened.ensures.1

pub returns-clause-refused : goal.returns-clause-refused
returns-clause-refused g c =
    weaker (IsNotDrawn changing c.args.top.now) c.graph_plan.result c.graph_plan.ensures.refused
    (λ fault why. not_by_journal fault (refused-of-round changing c.args.top.now c.in_ok-opened.opened.plan c.in_ok-opened.opened.journal (c.in_ok-opened.ensures.opened c.in_ok-round.ensures.round)
    (λ plan journal. IsJournalDrawnFault plan (journal_bytes journal)) fault why))

pub returns-then-not-is_there-clause-refused : goal.returns-then-not-is_there-clause-refused
returns-then-not-is_there-clause-refused g c =
    weaker (IsNotDrawn changing c.args.top.now) c.bare_graph.result c.bare_graph.ensures.refused
    (λ fault why. no_graph_alone fault (without-journal changing c.args.top.now _ _ c.in_ok-round.ensures.round (search rules)) why)

pub returns-in_err-round-clause-refused_held : goal.returns-in_err-round-clause-refused_held
returns-in_err-round-clause-refused_held g c = λ honest.
    by-fault (IsNotDrawn (fixed (g.F.Folder.holds c.args.folder.now)) c.args.top.now) c.in_err-round.field-0.0 (no_round_to_draw _ (c.in_err-round.ensures.refused_held honest)) c.from_residual.result c.from_residual.ensures.1

pub returns-in_err-opened-clause-refused_held : goal.returns-in_err-opened-clause-refused_held
returns-in_err-opened-clause-refused_held g c = λ honest.
    by-fault (IsNotDrawn (fixed (g.F.Folder.holds c.args.folder.now)) c.args.top.now) c.in_err-opened.field-0.0 (not_by_journal _ (not_opened _ (c.in_err-opened.ensures.refused_held honest (c.in_ok-round.ensures.held honest))))
    c.from_residual-in_err-opened.result c.from_residual-in_err-opened.ensures.1

pub returns-clause-refused_held : goal.returns-clause-refused_held
returns-clause-refused_held g c = λ honest.
    weaker (IsNotDrawn (fixed (g.F.Folder.holds c.args.folder.now)) c.args.top.now) c.graph_plan.result c.graph_plan.ensures.refused
    (λ fault why. not_by_journal fault (refused-of-round (fixed (g.F.Folder.holds c.args.folder.now)) c.args.top.now c.in_ok-opened.opened.plan c.in_ok-opened.opened.journal (c.in_ok-opened.ensures.held honest (c.in_ok-round.ensures.held honest))
    (λ plan journal. IsJournalDrawnFault plan (journal_bytes journal)) fault why))

pub returns-then-not-is_there-clause-refused_held : goal.returns-then-not-is_there-clause-refused_held
returns-then-not-is_there-clause-refused_held g c = λ honest.
    weaker (IsNotDrawn (fixed (g.F.Folder.holds c.args.folder.now)) c.args.top.now) c.bare_graph.result (c.bare_graph.ensures.refused_held honest)
    (λ fault why. no_graph_alone fault (without-journal (fixed (g.F.Folder.holds c.args.folder.now)) c.args.top.now _ _ (c.in_ok-round.ensures.held honest) (search rules)) why)
