use Rattle.std.proofs.Common.{List, length, ◌<◌, subst, arith}
use Rattle.node_machine.specs.declared.Key.{Key}
use Rattle.sched_core.specs.Ahead.{NothingToStart, launched}
use Rattle.recovery_manager.specs.Managed.{plan_of, past_of}
use Rattle.job_starter_drive.specs.Drives.{limits_of, most_at_once}
use Rattle.job_starter_drive.proofs.Steps.{some-length}
use Rattle.job_starter_drive.proofs.Walks.{no_child}
use Rattle.job_starter_drive.proofs.records.next_round.Goals as goal

pub returns-in-Ok-clause-round : goal.returns-in-Ok-clause-round
returns-in-Ok-clause-round g c = λ some. record {
  some = some-length c.in-Ok.keys.items some;
  few = c.in-Ok.ensures.few;
  chosen = c.in-Ok.ensures.chosen;
  full = c.in-Ok.ensures.all;
}

pub returns-in-Ok-clause-held : goal.returns-in-Ok-clause-held
returns-in-Ok-clause-held g c = λ none.
    let empty = no_child c.in-Ok.keys.items none in
    subst (λ (l : List Key). length l < most_at_once → NothingToStart (limits_of c.args.manager.now) (plan_of c.args.manager.now) (launched (past_of c.args.manager.now) l)) empty c.in-Ok.ensures.all (omega arith)
