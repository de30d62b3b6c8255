use Rattle.std.proofs.Common.{◌≡◌, ◌+◌, ◌≤◌, length, drop}
use Rattle.run_times.specs.Canvas.{within}
use Rattle.run_times.specs.Parts.{end_of_rest, waited_in, lasted_in, early_in}
use Rattle.run_times.proofs.parts.lasted_in.Given as goal

abbrev pub invariant-loop-place : goal.invariant-loop-place
invariant-loop-place l = record {
  inside : l.place ≤ length l.path;
  total : l.total ≡ within (lasted_in l.runs (drop l.place l.path));
  whole : waited_in l.runs (drop l.place l.path) + lasted_in l.runs (drop l.place l.path) ≡ end_of_rest l.runs (drop l.place l.path) + early_in l.runs (drop l.place l.path);
}

abbrev pub decreases-loop-place : goal.decreases-loop-place
decreases-loop-place l = l.place
