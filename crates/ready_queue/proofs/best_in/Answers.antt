use Rattle.std.specs.Prelude.{pos}
use Rattle.ready_queue.proofs.Places.{first-best}
use Rattle.ready_queue.proofs.best_in.Goals as goal

pub returns-then-allowed : goal.returns-then-allowed
returns-then-allowed g c =
    first-best (goal.F-post g c.args.allowed) c.args.members.now c.loop-member.member-index (record { node = 0; priority = pos 0 }) c.requires.ordered c.loop-member-test.true c.loop-member.invariant (c.if-allowed.ensures)
