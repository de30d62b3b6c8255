use Rattle.std.proofs.Common.{◌≤◌, ◌∙◌, Option, sym, subst}
use Rattle.std.proofs.lemmas.Result.{IfOk-weaker}
use Rattle.event_journal_log.specs.declared.decoded.Peek.{Peek}
use Rattle.event_journal_log.specs.Image.{replay_of}
use Rattle.event_journal_log.specs.Peeks.{ReadsPeek}
use Rattle.dag_main_check.proofs.Refusals.{weaker}
use Rattle.dag_main_files.specs.Folder.{IsHighestThere}
use Rattle.dag_main_files.proofs.RunFaults.{by-fault}
use Rattle.redo.specs.Numbers.{IsNoNextNumber, journal_unread, folder_not_seen}
use Rattle.redo.proofs.Numbered.{none-is, in-folder}
use Rattle.redo.proofs.numbers.next_number.Goals as goal

pub returns-in_err-peek-clause-refused : goal.returns-in_err-peek-clause-refused
returns-in_err-peek-clause-refused g c =
    by-fault (IsNoNextNumber c.args.top.now c.args.journal.now) c.in_err-peek.field-0.0 (journal_unread _ c.in_err-peek.ensures.refused) c.from_residual.result c.from_residual.ensures.1

pub returns-in-Some-clause-cut_short : goal.returns-in-Some-clause-cut_short
returns-in-Some-clause-cut_short g c =
    IfOk-weaker c.next_by.result _ _
    (λ next h. h c.args.journal.now (subst (λ (o : Option Peek). ReadsPeek o (replay_of c.args.journal.now)) c.in-Some.is c.in_ok-peek.ensures.peek)) c.next_by.ensures.cut_short

pub returns-in-Some-clause-next : goal.returns-in-Some-clause-next
returns-in-Some-clause-next g c =
    IfOk-weaker c.next_by.result _ _
    (λ next h. h c.args.journal.now (subst (λ (o : Option Peek). ReadsPeek o (replay_of c.args.journal.now)) c.in-Some.is c.in_ok-peek.ensures.peek)) c.next_by.ensures.next

pub returns-in-Some-clause-held : goal.returns-in-Some-clause-held
returns-in-Some-clause-held g c = λ honest.
    IfOk-weaker c.next_by.result _ _
    (λ next h. h c.args.journal.now (subst (λ (o : Option Peek). ReadsPeek o (replay_of c.args.journal.now)) c.in-Some.is c.in_ok-peek.ensures.peek)) (c.next_by.ensures.held honest)

pub returns-in-Some-clause-refused : goal.returns-in-Some-clause-refused
returns-in-Some-clause-refused g c =
    weaker _ c.next_by.result c.next_by.ensures.refused
    (λ fault why. why c.args.journal.now (subst (λ (o : Option Peek). ReadsPeek o (replay_of c.args.journal.now)) c.in-Some.is c.in_ok-peek.ensures.peek))

pub returns-in-None-clause-cut_short : goal.returns-in-None-clause-cut_short
returns-in-None-clause-cut_short g c =
    IfOk-weaker c.next_in_folder.result _ _
    (λ next is. is ∙ sym (none-is c.args.journal.now (subst (λ (o : Option Peek). ReadsPeek o (replay_of c.args.journal.now)) c.in-None.is c.in_ok-peek.ensures.peek)))
    c.next_in_folder.ensures.cut_short

pub returns-in-None-clause-next : goal.returns-in-None-clause-next
returns-in-None-clause-next g c =
    IfOk-weaker c.next_in_folder.result _ _
    (λ next h. in-folder (λ highest. highest ≤ 999) c.args.journal.now next.number (none-is c.args.journal.now (subst (λ (o : Option Peek). ReadsPeek o (replay_of c.args.journal.now)) c.in-None.is c.in_ok-peek.ensures.peek)) h)
    c.next_in_folder.ensures.after

pub returns-in-None-clause-held : goal.returns-in-None-clause-held
returns-in-None-clause-held g c = λ honest.
    IfOk-weaker c.next_in_folder.result _ _
    (λ next h. in-folder (IsHighestThere (g.F.Folder.has c.args.folder.now) c.args.top.now) c.args.journal.now next.number (none-is c.args.journal.now (subst (λ (o : Option Peek). ReadsPeek o (replay_of c.args.journal.now)) c.in-None.is c.in_ok-peek.ensures.peek)) h)
    (c.next_in_folder.ensures.held honest)

pub returns-in-None-clause-refused : goal.returns-in-None-clause-refused
returns-in-None-clause-refused g c = weaker _ c.next_in_folder.result c.next_in_folder.ensures.refused (λ fault why. folder_not_seen fault why)
