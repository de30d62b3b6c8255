use Rattle.std.proofs.Common.{◌∙◌, ap, sym}
use Rattle.splices_flat.specs.FileSet.{bytes_of}
use Rattle.dag_main_files.specs.Beside.{IsJournalFault, peeking_had_no_memory, refusing_unheld_had_no_memory}
use Rattle.dag_main_files.specs.Folder.{IsJournalFaultHeld, journal_unheld, journal_unread}
use Rattle.dag_main_check.specs.declared.fault.RunFault.TheVariants.{Memory}
use Rattle.dag_main_check.proofs.Refusals.{weaker}
use Rattle.dag_main_files.proofs.RunFaults.{by-fault}
use Rattle.dag_main_files.proofs.folder.FileSetFolder.journal.Goals as goal

pub returns-in_err-path-clause-refused : goal.returns-in_err-path-clause-refused
returns-in_err-path-clause-refused c = by-fault (IsJournalFault c.args.top.now) Memory peeking_had_no_memory c.from_residual.result c.from_residual.ensures.1

pub returns-in_err-path-clause-refused_held : goal.returns-in_err-path-clause-refused_held
returns-in_err-path-clause-refused_held c = λ honest.
    by-fault (IsJournalFaultHeld (bytes_of c.args.self.now) c.args.top.now) Memory (journal_unheld Memory refusing_unheld_had_no_memory)
    c.from_residual.result c.from_residual.ensures.1

pub returns-in-Some-clause-refused_held : goal.returns-in-Some-clause-refused_held
returns-in-Some-clause-refused_held c = λ honest.
    weaker (IsJournalFaultHeld (bytes_of c.args.self.now) c.args.top.now) c.peek_in.result c.peek_in.ensures.refused
    (λ fault why. journal_unread c.in-Some.bytes.now fault (ap (bytes_of c.args.self.now) (sym (c.as_str.ensures ∙ c.in_ok-path.ensures)) ∙ sym c.in-Some.ensures) why)
