use Rattle.std.proofs.Common.{◌≡◌, reverse, take}
use Rattle.dag_main_rehearse.specs.Timed.{timing_among}
use Rattle.dag_main_rehearse.proofs.timetable.timing_among.Given as goal

abbrev pub invariant-loop-timed : goal.invariant-loop-timed
invariant-loop-timed l = l.timing ≡ timing_among (reverse (take l.timed-index l.entries)) l.key
