use Rattle.std.proofs.Common.{None, refl, subst}
use Rattle.event_journal_log.specs.Peeks.{ReadsPeek}
use Rattle.dag_main_files.specs.Folder.{journal_in, IsRoundFaultHeld, held_journal_not_read, held_folder_not_read}
use Rattle.dag_main_files.specs.Beside.{IsRoundFault, journal_not_read, folder_not_read, begins_anew}
use Rattle.dag_main_files.proofs.RunFaults.{by-fault}
use Rattle.dag_main_files.proofs.Journals.{of-none, of-finished, goes-on, bad-header}
use Rattle.dag_main_files.proofs.rounds.next_round.Goals.{in-None, in-Some}
use Rattle.dag_main_files.proofs.rounds.next_round.Goals as goal

pub returns-in_err-journal-clause-refused : goal.returns-in_err-journal-clause-refused
returns-in_err-journal-clause-refused g c =
    by-fault (IsRoundFault c.args.top.now None) c.in_err-journal.field-0.0 (journal_not_read _ tt c.in_err-journal.ensures.refused) c.from_residual.result c.from_residual.ensures.1

pub returns-in_err-highest-clause-refused : goal.returns-in_err-highest-clause-refused
returns-in_err-highest-clause-refused g c =
    by-fault (IsRoundFault c.args.top.now None) c.in_err-highest.field-0.0 (folder_not_read _ tt c.in_err-highest.ensures.refused)
    c.from_residual-in_err-highest.result c.from_residual-in_err-highest.ensures.1

pub returns-clause-by : goal.returns-clause-by
returns-clause-by g c =
    begins_anew c.in_ok-highest.highest refl c.in_ok-highest.ensures.highest
    (elim c.match-branch-2.branch [
      | in-None w ↦ rw w.journal-is tt
      | in-Some w ↦ rw w.journal-is tt
    ]) c.number_read.ensures c.number_after.ensures.behind refl refl

pub returns-clause-held : goal.returns-clause-held
returns-clause-held g c = λ honest. record {
  by_highest = begins_anew c.in_ok-highest.highest refl (c.in_ok-highest.ensures.there honest)
      (elim c.match-branch-2.branch [
        | in-None w ↦ rw w.journal-is tt
        | in-Some w ↦ rw w.journal-is tt
      ]) c.number_read.ensures c.number_after.ensures.behind refl refl;
  by_journal = elim c.match-branch-2.branch [
    | in-None w ↦ of-none _ _ (subst (λ p. ReadsPeek p (journal_in (g.F.Folder.holds c.args.folder.now) c.args.top.now)) w.in-None.is (c.in_ok-journal.ensures.peek honest)) w.journal-is
    | in-Some w ↦ of-finished _ _ w.in-Some.peek
        (subst (λ p. ReadsPeek p (journal_in (g.F.Folder.holds c.args.folder.now) c.args.top.now)) w.in-Some.is (c.in_ok-journal.ensures.peek honest)) w.if-peek.true w.journal-is
  ];
}

pub returns-in-Some-2-clause-held : goal.returns-in-Some-2-clause-held
returns-in-Some-2-clause-held g c = λ honest.
    goes-on (g.F.Folder.holds c.args.folder.now) (g.F.Folder.has c.args.folder.now) c.args.top.now c.args.autorescue c.args.always_post c.in-Some.peek c.unfinished.result
    (subst (λ p. ReadsPeek p (journal_in (g.F.Folder.holds c.args.folder.now) c.args.top.now)) c.in-Some.is (c.in_ok-journal.ensures.peek honest)) c.if-peek.false
    c.unfinished.ensures.header c.unfinished.ensures.ahead

pub returns-in_err-journal-clause-refused_held : goal.returns-in_err-journal-clause-refused_held
returns-in_err-journal-clause-refused_held g c = λ honest.
    by-fault (IsRoundFaultHeld (g.F.Folder.holds c.args.folder.now) (g.F.Folder.has c.args.folder.now) c.args.top.now None) c.in_err-journal.field-0.0
    (held_journal_not_read _ tt (c.in_err-journal.ensures.refused_held honest)) c.from_residual.result c.from_residual.ensures.1

pub returns-in_err-highest-clause-refused_held : goal.returns-in_err-highest-clause-refused_held
returns-in_err-highest-clause-refused_held g c = λ honest.
    by-fault (IsRoundFaultHeld (g.F.Folder.holds c.args.folder.now) (g.F.Folder.has c.args.folder.now) c.args.top.now None) c.in_err-highest.field-0.0
    (held_folder_not_read _ tt c.in_err-highest.ensures.refused) c.from_residual-in_err-highest.result c.from_residual-in_err-highest.ensures.1

pub returns-in-Some-2-clause-refused_held : goal.returns-in-Some-2-clause-refused_held
returns-in-Some-2-clause-refused_held g c = λ honest.
    bad-header (g.F.Folder.holds c.args.folder.now) (g.F.Folder.has c.args.folder.now) c.args.top.now c.in-Some.peek
    (subst (λ p. ReadsPeek p (journal_in (g.F.Folder.holds c.args.folder.now) c.args.top.now)) c.in-Some.is (c.in_ok-journal.ensures.peek honest)) c.if-peek.false
    c.unfinished.result c.unfinished.ensures.bad
