use Rattle.dag_main_files.proofs.RunFaults.{by-fault}
use Rattle.dag_main_files.proofs.Makes.{begun-more, makes-refused, makes-after}
use Rattle.dag_main_run.specs.InTheWay.{IsReadyFault}
use Rattle.dag_main_run.specs.RunChanges.{clears_rescues, clears_journal, clears}
use Rattle.dag_main_run.proofs.site.put_away.Goals as goal

pub returns-in_err-clear_rescues-clause-refused : goal.returns-in_err-clear_rescues-clause-refused
returns-in_err-clear_rescues-clause-refused g c =
    by-fault (IsReadyFault c.args.place.now.top.now c.args.round.now) c.in_err-clear_rescues.field-0.0 c.in_err-clear_rescues.ensures.refused
    c.from_residual.result c.from_residual.ensures.1

pub returns-in_err-clear_rescues-clause-changes : goal.returns-in_err-clear_rescues-clause-changes
returns-in_err-clear_rescues-clause-changes g c =
    let top = c.args.place.now.top.now in
    let round = c.args.round.now in
    let made = c.in_err-clear_rescues.ensures.changes in (
      made.0,
      made.1,
      makes-refused _ c.from_residual.result c.from_residual.ensures.1 (clears top round made.0) c.args.changes.now c.clear_rescues.new.changes
          (begun-more (clears_rescues round.goes_back top made.0) (clears_journal round.journal top) c.args.changes.now c.clear_rescues.new.changes made.2),
    )

pub returns-clause-changes : goal.returns-clause-changes
returns-clause-changes g c =
    let top = c.args.place.now.top.now in
    let round = c.args.round.now in
    let made = c.in_ok-clear_rescues.ensures.changes in (
      made.0,
      made.1,
      makes-after c.clear_journal.result (clears_rescues round.goes_back top made.0) (clears_journal round.journal top) c.args.changes.now c.clear_rescues.new.changes
          c.clear_journal.new.changes made.2 c.clear_journal.ensures.changes,
    )
