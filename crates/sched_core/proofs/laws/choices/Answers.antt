use Rattle.sched_core.proofs.Best.{choice-one, chosen-follows}
use Rattle.sched_core.proofs.Moves.{finish-follows}
use Rattle.sched_core.proofs.laws.choices.Goals as goal

pub returns-clause-one : goal.returns-clause-one
returns-clause-one c limits plan past choice other a b = choice-one limits plan past choice other a b

pub returns-clause-start : goal.returns-clause-start
returns-clause-start c limits plan past key is_open_now choice = chosen-follows limits plan past key is_open_now choice

pub returns-clause-finish : goal.returns-clause-finish
returns-clause-finish c limits plan past status is_open_now choice = finish-follows limits plan past status is_open_now choice
