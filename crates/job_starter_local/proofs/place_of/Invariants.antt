use Rattle.std.proofs.Common.{take, reverse, IsFalse}
use Rattle.sched_core.specs.Run.{is_among}
use Rattle.job_starter_local.proofs.place_of.Given as goal

abbrev pub invariant-loop-place : goal.invariant-loop-place
invariant-loop-place l = IsFalse (is_among l.key (reverse (take l.place l.keys)))
