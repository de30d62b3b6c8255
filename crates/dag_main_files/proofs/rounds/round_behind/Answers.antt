use Rattle.std.proofs.Common.{◌∙◌, Some, refl, ap, sym, subst}
use Rattle.dag_main_files.specs.Beside.{folder_name_of, IsRefusalOf, refusing_had_no_memory, IsRoundFault, not_there, journal_not_read, not_ended, folder_not_read, goes_back}
use Rattle.event_journal_log.specs.Peeks.{ReadsPeek}
use Rattle.dag_main_files.specs.Folder.{journal_in, IsRoundFaultHeld, held_not_there, held_journal_not_read, held_folder_not_read}
use Rattle.dag_main_files.proofs.RunFaults.{by-fault}
use Rattle.dag_main_files.proofs.Journals.{of-none, of-finished, unfinished-held}
use Rattle.dag_main_files.proofs.rounds.round_behind.Goals.{in-None, in-Some}
use Rattle.dag_main_files.proofs.rounds.round_behind.Goals as goal

pub returns-in_err-path-clause-refused : goal.returns-in_err-path-clause-refused
returns-in_err-path-clause-refused g c =
    by-fault (IsRoundFault c.args.top.now (Some c.args.number)) c.in_err-path.field-0.0
    (folder_not_read _ c.requires (subst (IsRefusalOf (folder_name_of c.args.top.now)) (sym c.in_err-path.ensures.err) refusing_had_no_memory))
    c.from_residual.result c.from_residual.ensures.1

pub returns-then-not-branch-clause-refused : goal.returns-then-not-branch-clause-refused
returns-then-not-branch-clause-refused g c = not_there _ refl

pub returns-in_err-is_there-clause-refused : goal.returns-in_err-is_there-clause-refused
returns-in_err-is_there-clause-refused g c =
    by-fault (IsRoundFault c.args.top.now (Some c.args.number)) c.in_err-is_there.field-0.0
    (folder_not_read _ c.requires (subst (IsRefusalOf (folder_name_of c.args.top.now)) (sym c.in_err-is_there.ensures.refused) refusing_had_no_memory))
    c.from_residual-in_err-is_there.result c.from_residual-in_err-is_there.ensures.1

pub returns-in_err-journal-clause-refused : goal.returns-in_err-journal-clause-refused
returns-in_err-journal-clause-refused g c =
    by-fault (IsRoundFault c.args.top.now (Some c.args.number)) c.in_err-journal.field-0.0
    (journal_not_read _ c.requires c.in_err-journal.ensures.refused)
    c.from_residual-in_err-journal.result c.from_residual-in_err-journal.ensures.1

pub returns-in-Some-2-clause-refused : goal.returns-in-Some-2-clause-refused
returns-in-Some-2-clause-refused g c = not_ended _ refl c.requires

pub returns-in_err-highest-clause-refused : goal.returns-in_err-highest-clause-refused
returns-in_err-highest-clause-refused g c =
    by-fault (IsRoundFault c.args.top.now (Some c.args.number)) c.in_err-highest.field-0.0
    (folder_not_read _ c.requires c.in_err-highest.ensures.refused)
    c.from_residual-in_err-highest.result c.from_residual-in_err-highest.ensures.1

pub returns-clause-by : goal.returns-clause-by
returns-clause-by g c = λ autorescue.
    goes_back c.args.number refl c.requires
    (elim c.match-branch-4.branch [
      | in-None w ↦ rw w.journal-is tt
      | in-Some w ↦ rw w.journal-is tt
    ]) refl c.number_after.ensures.behind refl refl

pub returns-clause-held : goal.returns-clause-held
returns-clause-held g c = λ autorescue honest. record {
  by_highest = goes_back c.args.number refl c.requires
      (elim c.match-branch-4.branch [
        | in-None w ↦ rw w.journal-is tt
        | in-Some w ↦ rw w.journal-is tt
      ]) refl c.number_after.ensures.behind refl refl;
  by_journal = elim c.match-branch-4.branch [
    | in-None w ↦ of-none _ _ (subst (λ p. ReadsPeek p (journal_in (g.F.Folder.holds c.args.folder.now) c.args.top.now)) w.in-None.is (c.in_ok-journal.ensures.peek honest)) w.journal-is
    | in-Some w ↦ of-finished _ _ w.in-Some.peek
        (subst (λ p. ReadsPeek p (journal_in (g.F.Folder.holds c.args.folder.now) c.args.top.now)) w.in-Some.is (c.in_ok-journal.ensures.peek honest)) w.if-peek.true w.journal-is
  ];
}

pub returns-in_err-path-clause-refused_held : goal.returns-in_err-path-clause-refused_held
returns-in_err-path-clause-refused_held g c = λ honest.
    by-fault (IsRoundFaultHeld (g.F.Folder.holds c.args.folder.now) (g.F.Folder.has c.args.folder.now) c.args.top.now (Some c.args.number)) c.in_err-path.field-0.0
    (held_folder_not_read _ c.requires (subst (IsRefusalOf (folder_name_of c.args.top.now)) (sym c.in_err-path.ensures.err) refusing_had_no_memory)) c.from_residual.result c.from_residual.ensures.1

pub returns-in_err-is_there-clause-refused_held : goal.returns-in_err-is_there-clause-refused_held
returns-in_err-is_there-clause-refused_held g c = λ honest.
    by-fault (IsRoundFaultHeld (g.F.Folder.holds c.args.folder.now) (g.F.Folder.has c.args.folder.now) c.args.top.now (Some c.args.number)) c.in_err-is_there.field-0.0
    (held_folder_not_read _ c.requires (subst (IsRefusalOf (folder_name_of c.args.top.now)) (sym c.in_err-is_there.ensures.refused) refusing_had_no_memory))
    c.from_residual-in_err-is_there.result c.from_residual-in_err-is_there.ensures.1

pub returns-then-not-branch-clause-refused_held : goal.returns-then-not-branch-clause-refused_held
returns-then-not-branch-clause-refused_held g c = λ honest.
    held_not_there c.args.number refl
    (ap (g.F.Folder.has c.args.folder.now) (sym (c.as_str.ensures ∙ c.in_ok-path.ensures.name)) ∙ sym (c.in_ok-is_there.ensures.there honest) ∙ c.if-not-branch.true)

pub returns-in_err-journal-clause-refused_held : goal.returns-in_err-journal-clause-refused_held
returns-in_err-journal-clause-refused_held g c = λ honest.
    by-fault (IsRoundFaultHeld (g.F.Folder.holds c.args.folder.now) (g.F.Folder.has c.args.folder.now) c.args.top.now (Some c.args.number)) c.in_err-journal.field-0.0
    (held_journal_not_read _ c.requires (c.in_err-journal.ensures.refused_held honest)) c.from_residual-in_err-journal.result c.from_residual-in_err-journal.ensures.1

pub returns-in-Some-2-clause-refused_held : goal.returns-in-Some-2-clause-refused_held
returns-in-Some-2-clause-refused_held g c = λ honest.
    unfinished-held (g.F.Folder.holds c.args.folder.now) (g.F.Folder.has c.args.folder.now) c.args.top.now c.in-Some.peek
    (subst (λ p. ReadsPeek p (journal_in (g.F.Folder.holds c.args.folder.now) c.args.top.now)) c.in-Some.is (c.in_ok-journal.ensures.peek honest)) c.if-peek.false
    c.args.number c.requires

pub returns-in_err-highest-clause-refused_held : goal.returns-in_err-highest-clause-refused_held
returns-in_err-highest-clause-refused_held g c = λ honest.
    by-fault (IsRoundFaultHeld (g.F.Folder.holds c.args.folder.now) (g.F.Folder.has c.args.folder.now) c.args.top.now (Some c.args.number)) c.in_err-highest.field-0.0
    (held_folder_not_read _ c.requires c.in_err-highest.ensures.refused) c.from_residual-in_err-highest.result c.from_residual-in_err-highest.ensures.1
