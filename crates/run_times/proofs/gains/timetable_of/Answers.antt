use Rattle.dag_main_rehearse.specs.Timed.{timings_of}
use Rattle.run_times.proofs.Gaining.{timings-more}
use Rattle.run_times.proofs.gains.timetable_of.Goals as goal

pub loop-run-preserved : goal.loop-run-preserved
loop-run-preserved c = record {
  timings =
      timings-more c.args.graph.now c.args.runs.now c.loop-run.run-index _ (timings_of c.loop-run.timetable) (timings_of c.add_run.new.timetable)
      c.loop-run-test.true c.loop-run.invariant.timings c.in_ok-add_run.ensures.timings;
  possible = c.in_ok-add_run.ensures.possible c.loop-run.invariant.possible;
}
