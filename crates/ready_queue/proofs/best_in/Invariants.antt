use Rattle.std.proofs.Common.{ℕ, ◌<◌, false, get_or}
use Rattle.ready_queue.specs.declared.Member.{Member}
use Rattle.ready_queue.proofs.best_in.Given as goal

abbrev pub invariant-loop-member : goal.invariant-loop-member
invariant-loop-member g l = (k : ℕ) (d : Member) → k < l.member-index → goal.F-post g l.allowed (get_or l.members k d).node false
