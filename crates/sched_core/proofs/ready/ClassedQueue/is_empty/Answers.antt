use Rattle.std.proofs.Common.{length, ap, arith, refl}
use Rattle.sched_core.specs.Queued.{Classed}
use Rattle.sched_core.proofs.ready.ClassedQueue.is_empty.Goals as goal

pub returns : goal.returns
returns c = (
  λ t class lt.
      let same = ap (λ (v : Classed). length v.queues) c.self.view_is in
      let test = c.loop-class-test.false in let e = c.len-class-end.ensures in
      c.loop-class.invariant class (omega (arith, lt, same, test, e)),
  λ all. refl,
)
