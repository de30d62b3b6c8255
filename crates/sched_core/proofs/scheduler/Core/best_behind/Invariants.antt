use Rattle.std.proofs.Common.{◌<◌, IfSome}
use Rattle.run_plan.specs.Plan.{count_of}
use Rattle.sched_core.specs.Core.{IsBestOf}
use Rattle.sched_core.specs.Ahead.{launched}
use Rattle.sched_core.specs.Heads.{IsNextHead, class_of_key, class_of_next}
use Rattle.sched_core.proofs.scheduler.Core.best_behind.Given as goal

abbrev pub invariant-loop-class : goal.invariant-loop-class
invariant-loop-class l = record {
  best : IsBestOf l.self.limits l.self.plan (launched l.self.past l.keys) (λ node. (node < count_of l.self.plan) × (class_of_next l.self.plan l.self.past node < l.class)) l.best;
  head : IfSome l.best (λ key. IsNextHead l.queue.queues l.taken (class_of_key l.self.plan key) key.node);
}
