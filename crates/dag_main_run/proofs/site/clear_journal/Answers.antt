use Rattle.dag_main_check.proofs.Refusals.{weaker}
use Rattle.dag_main_run.specs.InTheWay.{IsReadyFault, journal_stays}
use Rattle.dag_main_run.proofs.site.clear_journal.Goals as goal

pub returns-in-Finished-clause-refused : goal.returns-in-Finished-clause-refused
returns-in-Finished-clause-refused g c =
    weaker (IsReadyFault c.args.place.now.top.now c.args.round.now) c.put_journal_away.result c.put_journal_away.ensures.refused
    (λ fault is. journal_stays fault c.in-Finished.is is)
