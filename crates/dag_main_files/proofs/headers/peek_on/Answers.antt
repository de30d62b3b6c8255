use Rattle.std.proofs.Common.{sym, subst}
use Rattle.dag_main_files.specs.Beside.{IsJournalFault}
use Rattle.dag_main_files.proofs.Journals.{of-journal}
use Rattle.dag_main_files.proofs.headers.peek_on.Goals as goal

pub returns-in-Err-clause-refused : goal.returns-in-Err-clause-refused
returns-in-Err-clause-refused g c = λ top. subst (IsJournalFault top) (sym c.read_fault.ensures) (of-journal top c.in-Err.fault c.in-Err.ensures.no_other)
