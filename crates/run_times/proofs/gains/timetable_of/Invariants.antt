use Rattle.std.proofs.Common.{◌≡◌}
use Rattle.node_machine.specs.declared.Key.{Key}
use Rattle.dag_main_rehearse.specs.Timed.{HasPossibleEnds, timings_of}
use Rattle.run_times.specs.Gains.{timings_after}
use Rattle.run_times.proofs.gains.timetable_of.Given as goal

abbrev pub invariant-loop-run : goal.invariant-loop-run
invariant-loop-run l = record {
  timings : (key : Key) → timings_of l.timetable key ≡ timings_after l.graph l.runs l.run-index key;
  possible : HasPossibleEnds (timings_of l.timetable);
}
