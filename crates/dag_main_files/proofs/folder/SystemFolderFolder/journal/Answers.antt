use Rattle.std.proofs.Common.{◌∙◌, ℕ, List, sym, subst}
use Rattle.dag_main_files.specs.Beside.{IsRefusalOf, IsJournalFault, journal_of_another, peeking_had_no_memory}
use Rattle.dag_main_check.specs.declared.fault.RunFault.TheVariants.{Memory}
use Rattle.dag_main_files.proofs.RunFaults.{by-fault}
use Rattle.dag_main_files.proofs.folder.SystemFolderFolder.journal.Goals as goal

pub returns-in_err-path-clause-refused : goal.returns-in_err-path-clause-refused
returns-in_err-path-clause-refused g c = by-fault (IsJournalFault c.args.top.now) Memory peeking_had_no_memory c.from_residual.result c.from_residual.ensures.1

pub returns-in_err-goes_by-clause-refused : goal.returns-in_err-goes_by-clause-refused
returns-in_err-goes_by-clause-refused g c =
    by-fault (IsJournalFault c.args.top.now) c.in_err-goes_by.field-0.0 (journal_of_another _ (subst (λ (name : List ℕ). IsRefusalOf name c.in_err-goes_by.field-0.0) (c.as_str.ensures ∙ c.in_ok-path.ensures) c.in_err-goes_by.ensures.named))
    c.from_residual-in_err-goes_by.result c.from_residual-in_err-goes_by.ensures.1

pub returns-in_err-disk-clause-refused : goal.returns-in_err-disk-clause-refused
returns-in_err-disk-clause-refused g c =
    by-fault (IsJournalFault c.args.top.now) c.in_err-disk.field-0.0 (subst (IsJournalFault c.args.top.now) (sym c.in_err-disk.ensures) peeking_had_no_memory)
    c.from_residual-in_err-disk.result c.from_residual-in_err-disk.ensures.1
