use Rattle.std.proofs.Common.{◌≡◌, ◌≤◌, ◌++◌, length, drop, string_bytes}
use Rattle.run_times.specs.Summary.{parts_text}
use Rattle.run_times.proofs.summary.push_parts.Given as goal

abbrev pub invariant-loop-place : goal.invariant-loop-place
invariant-loop-place l = record {
  inside : l.place ≤ length l.path;
  text : string_bytes l.text ≡ string_bytes l.initial.text ++ parts_text l.shown.graph.now l.shown.limits.now l.shown.runs.now (drop l.place l.path);
}

abbrev pub decreases-loop-place : goal.decreases-loop-place
decreases-loop-place l = l.place
