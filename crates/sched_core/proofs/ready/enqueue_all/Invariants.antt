use Rattle.sched_core.proofs.Settling.{IsFilled}
use Rattle.sched_core.proofs.ready.enqueue_all.Given as goal

abbrev pub invariant-loop-node : goal.invariant-loop-node
invariant-loop-node l = IsFilled l.plan l.states.runs l.states.left l.node l.queue
