use Rattle.std.proofs.Common.{◌≡◌, true}
use Rattle.sched_core.specs.Run.{is_nothing, outstanding}
use Rattle.sched_core.proofs.Best.{best-start, best-none, nothing-to-start}
use Rattle.sched_core.proofs.scheduler.Core.choose.Goals as goal

pub returns-in-Some : goal.returns-in-Some
returns-in-Some c = best-start c.args.self.now.limits c.args.self.now.plan c.args.self.now.past c.in-Some.key c.in-Some.ensures

pub returns-then-nothing_running : goal.returns-then-nothing_running
returns-then-nothing_running c =
    let nothing : is_nothing (outstanding c.args.self.now.plan c.args.self.now.past) ≡ true = cc in (
      nothing-to-start c.args.self.now.limits c.args.self.now.plan c.args.self.now.past nothing c.in-None.ensures,
      nothing,
      c.verdict.ensures,
    )

pub returns-else-nothing_running : goal.returns-else-nothing_running
returns-else-nothing_running c = (cc, best-none c.args.self.now.limits c.args.self.now.plan c.args.self.now.past c.in-None.ensures)
