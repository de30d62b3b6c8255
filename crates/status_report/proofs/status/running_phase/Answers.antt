use Rattle.std.proofs.Common.{sym}
use Rattle.status_report.proofs.Running.{not-running, running, running-next}
use Rattle.status_report.proofs.status.running_phase.Goals as goal

pub returns-then-not-is_running : goal.returns-then-not-is_running
returns-then-not-is_running c = not-running c.args.core.now.plan c.args.core.now.past c.keeps_the_law.ensures c.args.node (sym c.if-not-is_running.ensures)

pub returns-in-Some : goal.returns-in-Some
returns-in-Some c = running c.args.core.now.plan c.args.core.now.past c.keeps_the_law.ensures c.args.node (sym c.if-not-is_running.ensures) c.in-Some.key (sym c.in-Some.ensures)

pub returns-in-None : goal.returns-in-None
returns-in-None c = running-next c.args.core.now.plan c.args.core.now.past c.keeps_the_law.ensures c.args.node (sym c.if-not-is_running.ensures) (sym c.in-None.ensures)
