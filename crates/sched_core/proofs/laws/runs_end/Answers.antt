use Rattle.sched_core.proofs.Bounds.{launch-lowers, end-lowers}
use Rattle.sched_core.proofs.laws.runs_end.Goals as goal

pub returns-clause-launch : goal.returns-clause-launch
returns-clause-launch c plan past key number lawful h = launch-lowers plan past lawful key number h

pub returns-clause-end : goal.returns-clause-end
returns-clause-end c plan past key outcome lawful h = end-lowers plan past lawful key outcome h
