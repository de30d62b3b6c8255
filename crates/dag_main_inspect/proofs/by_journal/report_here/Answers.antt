use Rattle.std.proofs.Common.{◌≡◌, ◌∙◌, Bool, true, false, not, refl, sym}
use Rattle.std.proofs.lemmas.Bool.{false≢true}
use Rattle.dag_main_check.proofs.Refusals.{weaker}
use Rattle.dag_main_files.specs.Opened.{changing, fixed}
use Rattle.dag_main_files.proofs.RunFaults.{by-fault}
use Rattle.dag_main_inspect.specs.LastRound.{no_last_round, not_opened}
use Rattle.dag_main_inspect.specs.Reported.{no_end}
use Rattle.dag_main_inspect.specs.Asked.{IsNoStatus, TellsOfNoRun}
use Rattle.dag_main_inspect.proofs.Rounds.{refused-of-round}
use Rattle.dag_main_inspect.proofs.by_journal.report_here.Goals as goal

goes-on : (ended : Bool) → not ended ≡ true → ended ≡ false
goes-on false is = refl
goes-on true is = absurd (false≢true is)

pub returns-in_err-round-clause-refused : goal.returns-in_err-round-clause-refused
returns-in_err-round-clause-refused g c =
    by-fault (IsNoStatus changing c.args.top.now) c.in_err-round.field-0.0 (not_opened _ (no_last_round _ c.in_err-round.ensures.refused)) c.from_residual.result c.from_residual.ensures.1

pub returns-then-not-round-clause-none : goal.returns-then-not-round-clause-none
returns-then-not-round-clause-none g c =
    no_end c.in_ok-round.round.journal c.in_ok-round.ensures.round.journal_is (sym c.in_ok-round.ensures.ended ∙ goes-on _ c.if-not-round.true)

pub returns-in_err-opened-clause-refused : goal.returns-in_err-opened-clause-refused
returns-in_err-opened-clause-refused g c =
    by-fault (IsNoStatus changing c.args.top.now) c.in_err-opened.field-0.0 (not_opened _ (c.in_err-opened.ensures.refused c.in_ok-round.ensures.round))
    c.from_residual-in_err-opened.result c.from_residual-in_err-opened.ensures.1

pub returns-clause-refused : goal.returns-clause-refused
returns-clause-refused g c =
    weaker (IsNoStatus changing c.args.top.now) c.report_in.result c.report_in.ensures.refused
    (refused-of-round changing c.args.top.now c.in_ok-opened.opened.plan c.in_ok-opened.opened.journal (c.in_ok-opened.ensures.opened c.in_ok-round.ensures.round) TellsOfNoRun)

pub returns-in_err-round-clause-refused_held : goal.returns-in_err-round-clause-refused_held
returns-in_err-round-clause-refused_held g c = λ honest.
    by-fault (IsNoStatus (fixed (g.F.Folder.holds c.args.folder.now)) c.args.top.now) c.in_err-round.field-0.0 (not_opened _ (no_last_round _ (c.in_err-round.ensures.refused_held honest))) c.from_residual.result c.from_residual.ensures.1

pub returns-then-not-round-clause-none_held : goal.returns-then-not-round-clause-none_held
returns-then-not-round-clause-none_held g c = λ honest.
    no_end c.in_ok-round.round.journal (c.in_ok-round.ensures.held honest).journal_is (sym c.in_ok-round.ensures.ended ∙ goes-on _ c.if-not-round.true)

pub returns-in_err-opened-clause-refused_held : goal.returns-in_err-opened-clause-refused_held
returns-in_err-opened-clause-refused_held g c = λ honest.
    by-fault (IsNoStatus (fixed (g.F.Folder.holds c.args.folder.now)) c.args.top.now) c.in_err-opened.field-0.0 (not_opened _ (c.in_err-opened.ensures.refused_held honest (c.in_ok-round.ensures.held honest)))
    c.from_residual-in_err-opened.result c.from_residual-in_err-opened.ensures.1

pub returns-clause-refused_held : goal.returns-clause-refused_held
returns-clause-refused_held g c = λ honest.
    weaker (IsNoStatus (fixed (g.F.Folder.holds c.args.folder.now)) c.args.top.now) c.report_in.result c.report_in.ensures.refused
    (refused-of-round (fixed (g.F.Folder.holds c.args.folder.now)) c.args.top.now c.in_ok-opened.opened.plan c.in_ok-opened.opened.journal (c.in_ok-opened.ensures.held honest (c.in_ok-round.ensures.held honest)) TellsOfNoRun)
