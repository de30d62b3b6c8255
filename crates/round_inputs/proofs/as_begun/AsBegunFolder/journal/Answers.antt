use Rattle.dag_main_check.specs.declared.fault.RunFault.TheVariants.{Memory}
use Rattle.std.proofs.Common.{◌∙◌, ap, sym}
use Rattle.dag_main_files.specs.Beside.{journal_name_of, IsJournalFault, peeking_had_no_memory, refusing_unheld_had_no_memory}
use Rattle.dag_main_files.specs.Folder.{IsJournalFaultHeld, journal_unheld, journal_unread}
use Rattle.dag_main_check.proofs.Refusals.{weaker}
use Rattle.round_inputs.specs.AsBegun.{kept_in, as_begun, first_there}
use Rattle.round_inputs.proofs.Kept.{journal-unkept}
use Rattle.dag_main_files.proofs.RunFaults.{by-fault}
use Rattle.round_inputs.proofs.as_begun.AsBegunFolder.journal.Goals as goal

pub returns-in_err-path-clause-refused : goal.returns-in_err-path-clause-refused
returns-in_err-path-clause-refused g c = by-fault (IsJournalFault c.args.top.now) Memory peeking_had_no_memory c.from_residual.result c.from_residual.ensures.1

pub returns-in_err-path-clause-refused_held : goal.returns-in_err-path-clause-refused_held
returns-in_err-path-clause-refused_held g c = λ honest.
    by-fault (IsJournalFaultHeld (as_begun c.args.self.now.begun (g.F.Folder.holds c.args.self.now.folder.now)) c.args.top.now) Memory
    (journal_unheld Memory refusing_unheld_had_no_memory) c.from_residual.result c.from_residual.ensures.1

pub returns-in-Some-clause-refused_held : goal.returns-in-Some-clause-refused_held
returns-in-Some-clause-refused_held g c = λ honest.
    weaker (IsJournalFaultHeld (as_begun c.args.self.now.begun (g.F.Folder.holds c.args.self.now.folder.now)) c.args.top.now) c.peek_in.result c.peek_in.ensures.refused
    (λ fault why. journal_unread c.in-Some.bytes.now fault
    (ap (λ kept. first_there kept (g.F.Folder.holds c.args.self.now.folder.now (journal_name_of c.args.top.now)))
    (ap (kept_in c.args.self.now.begun) (sym (c.as_str.ensures ∙ c.in_ok-path.ensures)) ∙ sym c.in-Some.ensures)) why)

pub returns-clause-refused_held : goal.returns-clause-refused_held
returns-clause-refused_held g c = λ honest.
    journal-unkept c.args.self.now.begun (g.F.Folder.holds c.args.self.now.folder.now) c.args.top.now
    (c.in-None.ensures ∙ ap (kept_in c.args.self.now.begun) (c.as_str.ensures ∙ c.in_ok-path.ensures)) c.journal.result (c.journal.ensures.refused_held honest)
