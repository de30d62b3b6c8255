use Rattle.dag_main_rehearse.proofs.OneReport.{abort_free-report, one-abort_free, one-text, one-status, one-warnings}
use Rattle.dag_main_rehearse.proofs.laws.one_report.Goals as goal

pub returns-clause-abort_free : goal.returns-clause-abort_free
returns-clause-abort_free c = one-abort_free

pub returns-clause-text : goal.returns-clause-text
returns-clause-text c always files path outcomes limits bounds text other warnings notes status verdict a b x =
    one-text always files path outcomes text other status verdict (abort_free-report always files path outcomes limits text warnings status a x)
    (abort_free-report always files path outcomes bounds other notes verdict b (one-abort_free always files path outcomes limits bounds text other warnings notes status verdict a b x))

pub returns-clause-status : goal.returns-clause-status
returns-clause-status c always files path outcomes limits bounds text other warnings notes status verdict a b x =
    one-status always files path outcomes text other status verdict (abort_free-report always files path outcomes limits text warnings status a x)
    (abort_free-report always files path outcomes bounds other notes verdict b (one-abort_free always files path outcomes limits bounds text other warnings notes status verdict a b x))

pub returns-clause-warnings : goal.returns-clause-warnings
returns-clause-warnings c = one-warnings
