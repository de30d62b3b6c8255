use Rattle.sched_core.proofs.ready.ClassedQueue.clear.Goals as goal

pub clear_class-requires-clause-are : goal.clear_class-requires-clause-are
clear_class-requires-clause-are c = c.loop-class.invariant.are
