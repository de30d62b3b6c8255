use Rattle.std.proofs.Common.{◌≡◌, reverse, take}
use Rattle.dag_main_rehearse.specs.Timed.{moment_of, moment_after, timings_of}
use Rattle.dag_main_rehearse.proofs.timeline.time_after.Given as goal

abbrev pub invariant-loop-call : goal.invariant-loop-call
invariant-loop-call l = moment_of l.timeline ≡ moment_after (timings_of l.timetable) (reverse (take l.call-index l.calls))
