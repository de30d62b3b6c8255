use Rattle.dag_main_files.proofs.RunFaults.{by-fault}
use Rattle.dag_main_files.proofs.Makes.{begun-more, begun-after, made-after, makes-refused}
use Rattle.dag_main_run.specs.InTheWay.{IsReadyFault}
use Rattle.dag_main_run.specs.RunChanges.{clears, makes_journal, readies}
use Rattle.dag_main_run.proofs.site.SystemFolderSite.readied.Goals as goal

pub returns-in_err-put_away-clause-refused : goal.returns-in_err-put_away-clause-refused
returns-in_err-put_away-clause-refused g c =
    by-fault (IsReadyFault c.args.top.now c.args.round.now) c.in_err-put_away.field-0.0 c.in_err-put_away.ensures.refused
    c.from_residual.result c.from_residual.ensures.1

pub returns-in_err-put_away-clause-changes : goal.returns-in_err-put_away-clause-changes
returns-in_err-put_away-clause-changes g c =
    let top = c.args.top.now in
    let round = c.args.round.now in
    let made = c.in_err-put_away.ensures.changes in (
      made.0,
      made.1,
      makes-refused _ c.from_residual.result c.from_residual.ensures.1 (readies top round made.0) c.args.changes.now c.put_away.new.changes
          (begun-more (clears top round made.0) (makes_journal round.journal top) c.args.changes.now c.put_away.new.changes made.2),
    )

pub returns-in_err-make_journal-clause-refused : goal.returns-in_err-make_journal-clause-refused
returns-in_err-make_journal-clause-refused g c =
    by-fault (IsReadyFault c.args.top.now c.args.round.now) c.in_err-make_journal.field-0.0 c.in_err-make_journal.ensures.refused
    c.from_residual-in_err-make_journal.result c.from_residual-in_err-make_journal.ensures.1

pub returns-in_err-make_journal-clause-changes : goal.returns-in_err-make_journal-clause-changes
returns-in_err-make_journal-clause-changes g c =
    let top = c.args.top.now in
    let round = c.args.round.now in
    let made = c.in_ok-put_away.ensures.changes in (
      made.0,
      made.1,
      makes-refused _ c.from_residual-in_err-make_journal.result c.from_residual-in_err-make_journal.ensures.1 (readies top round made.0) c.args.changes.now
          c.make_journal.new.changes
          (begun-after (clears top round made.0) (makes_journal round.journal top) c.args.changes.now c.put_away.new.changes c.make_journal.new.changes made.2
          c.in_err-make_journal.ensures.changes),
    )

pub returns-clause-changes : goal.returns-clause-changes
returns-clause-changes g c =
    let top = c.args.top.now in
    let round = c.args.round.now in
    let made = c.in_ok-put_away.ensures.changes in (
      made.0,
      made.1,
      made-after (clears top round made.0) (makes_journal round.journal top) c.args.changes.now c.put_away.new.changes c.make_journal.new.changes made.2
          c.in_ok-make_journal.ensures.changes,
    )
