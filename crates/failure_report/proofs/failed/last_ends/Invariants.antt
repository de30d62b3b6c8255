use Rattle.std.proofs.Common.{◌≡◌, ◌<◌, ℕ, suc, None, take, reverse, length}
use Rattle.std.specs.Prelude.{slice_index_or}
use Rattle.run_plan.specs.Plan.{count_of}
use Rattle.sched_core.specs.Run.{chronological}
use Rattle.failure_report.specs.Failures.{last_end}
use Rattle.failure_report.proofs.failed.last_ends.Given as goal

abbrev pub invariant-loop-entry : goal.invariant-loop-entry
invariant-loop-entry l = record {
  many : length l.ends.items ≡ suc (count_of l.core.plan);
  each : (node : ℕ) → node < suc (count_of l.core.plan) → slice_index_or l.ends.items node None ≡ last_end (reverse (take l.entry-index (chronological l.core.past))) node;
}
