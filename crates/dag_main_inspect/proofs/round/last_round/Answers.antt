use Rattle.std.proofs.Common.{◌∙◌, ap, sym, Some}
use Rattle.std.specs.Option.{option_map}
use Rattle.std.proofs.lemmas.Option.{none-some}
use Rattle.dag_main_files.specs.Opened.{changing, fixed}
use Rattle.dag_main_files.proofs.OpenedFiles.{read-some, read-held, unreadable-some, unreadable-held}
use Rattle.dag_main_files.proofs.RunFaults.{by-fault}
use Rattle.dag_main_inspect.specs.LastRound.{IsNoLastRound, journal_refused}
use Rattle.dag_main_inspect.proofs.Rounds.{last-some, bad-number, bad-rescue}
use Rattle.dag_main_inspect.proofs.round.last_round.Goals.{in-Some+in_ok-rescue-in-Some, in-None}
use Rattle.dag_main_inspect.proofs.round.last_round.Goals as goal

pub returns-in_err-journal-clause-refused : goal.returns-in_err-journal-clause-refused
returns-in_err-journal-clause-refused g c =
    by-fault (IsNoLastRound changing c.args.top.now) c.in_err-journal.field-0.0 (journal_refused _ (unreadable-some _ _ c.in_err-journal.ensures.refused)) c.from_residual.result c.from_residual.ensures.1

pub returns-in_err-name-clause-refused : goal.returns-in_err-name-clause-refused
returns-in_err-name-clause-refused g c =
    by-fault (IsNoLastRound changing c.args.top.now) c.in_err-name.field-0.0
    (bad-number changing c.args.top.now c.in_ok-journal.journal (read-some _ _) c.head-head.result.used c.head-head.ensures.used_is _ c.in_err-name.ensures.number)
    c.from_residual-in_err-name.result c.from_residual-in_err-name.ensures.1

pub returns-in_err-rescue-in-Some-clause-refused : goal.returns-in_err-rescue-in-Some-clause-refused
returns-in_err-rescue-in-Some-clause-refused g c =
    by-fault (IsNoLastRound changing c.args.top.now) c.in_err-rescue-in-Some.field-0.0
    (bad-rescue changing c.args.top.now c.in_ok-journal.journal (read-some _ _) c.head-head.result.used c.head-head.ensures.used_is _ _ _ c.in_ok-name.ensures.name
    (c.in-Some.is ∙ ap Some (sym c.as_str.ensures)) (unreadable-some _ _ c.in_err-rescue-in-Some.ensures.named))
    c.from_residual-in_err-rescue-in-Some.result c.from_residual-in_err-rescue-in-Some.ensures.1

pub returns-in_err-journal-clause-refused_held : goal.returns-in_err-journal-clause-refused_held
returns-in_err-journal-clause-refused_held g c = λ honest.
    by-fault (IsNoLastRound (fixed (g.F.Folder.holds c.args.folder.now)) c.args.top.now) c.in_err-journal.field-0.0 (journal_refused _ (unreadable-held _ _ _ (c.in_err-journal.ensures.unheld honest))) c.from_residual.result c.from_residual.ensures.1

pub returns-in_err-name-clause-refused_held : goal.returns-in_err-name-clause-refused_held
returns-in_err-name-clause-refused_held g c = λ honest.
    by-fault (IsNoLastRound (fixed (g.F.Folder.holds c.args.folder.now)) c.args.top.now) c.in_err-name.field-0.0
    (bad-number (fixed (g.F.Folder.holds c.args.folder.now)) c.args.top.now c.in_ok-journal.journal (read-held _ _ _ (c.in_ok-journal.ensures.held honest)) c.head-head.result.used c.head-head.ensures.used_is _ c.in_err-name.ensures.number)
    c.from_residual-in_err-name.result c.from_residual-in_err-name.ensures.1

pub returns-in_err-rescue-in-Some-clause-refused_held : goal.returns-in_err-rescue-in-Some-clause-refused_held
returns-in_err-rescue-in-Some-clause-refused_held g c = λ honest.
    by-fault (IsNoLastRound (fixed (g.F.Folder.holds c.args.folder.now)) c.args.top.now) c.in_err-rescue-in-Some.field-0.0
    (bad-rescue (fixed (g.F.Folder.holds c.args.folder.now)) c.args.top.now c.in_ok-journal.journal (read-held _ _ _ (c.in_ok-journal.ensures.held honest)) c.head-head.result.used c.head-head.ensures.used_is _ _ _ c.in_ok-name.ensures.name
    (c.in-Some.is ∙ ap Some (sym c.as_str.ensures)) (unreadable-held _ _ _ (c.in_err-rescue-in-Some.ensures.unheld honest)))
    c.from_residual-in_err-rescue-in-Some.result c.from_residual-in_err-rescue-in-Some.ensures.1

pub returns-clause-round : goal.returns-clause-round
returns-clause-round g c =
    last-some c.args.top.now c.in_ok-journal.journal (option_map (λ b. b.items) c.match-name.rescue) c.in_ok-name.name
    c.head-head.result.used c.head-head.ensures.used_is c.in_ok-name.ensures.name
    (λ none. elim c.match-name.branch [
      | in-Some+in_ok-rescue-in-Some w ↦ absurd (none-some _ (sym none ∙ w.in-Some.is))
      | in-None w ↦ ap (option_map (λ b. b.items)) w.rescue-is
    ])
