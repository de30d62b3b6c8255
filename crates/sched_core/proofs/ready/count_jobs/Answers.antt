use Rattle.std.proofs.Common.{arith}
use Rattle.sched_core.proofs.ready.count_jobs.Goals as goal

pub count-requires-clause-room : goal.count-requires-clause-room
count-requires-clause-room c =
    let few = c.loop-node.invariant.few c.class_of_job.result in
    let room = c.count-most.ensures.room in let is = c.count-most.ensures.is in
    let test = c.loop-node-test.true in let e = c.count-node-end.ensures.is in
    omega (arith, few, room, is, test, e)
