use Rattle.std.proofs.Common.{sym, subst}
use Rattle.dag_main_files.specs.Beside.{IsJournalFault}
use Rattle.dag_main_files.specs.Journals.{IsUnread}
use Rattle.dag_main_files.proofs.Journals.{unread, of-journal}
use Rattle.dag_main_files.proofs.headers.peek_in.Goals as goal

pub returns-in-Err-clause-refused : goal.returns-in-Err-clause-refused
returns-in-Err-clause-refused c = subst (IsUnread c.args.bytes.now) (sym c.read_fault.ensures) (unread c.args.bytes.now c.in-Err.fault c.in-Err.ensures.refused)

pub returns-in-Err-clause-kind : goal.returns-in-Err-clause-kind
returns-in-Err-clause-kind c = λ top. subst (IsJournalFault top) (sym c.read_fault.ensures) (of-journal top c.in-Err.fault c.in-Err.ensures.no_other)
