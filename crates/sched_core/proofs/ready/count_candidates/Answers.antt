use Rattle.sched_core.proofs.Shares.{rooms-are}
use Rattle.sched_core.proofs.ready.count_candidates.Goals as goal

pub returns : goal.returns
returns c =
    rooms-are c.args.plan.now c.count_jobs.new.counts c.count_jobs.ensures.many c.count_jobs.ensures.counted c.count.result c.count-2.result c.count.ensures.is c.count-2.ensures.is
