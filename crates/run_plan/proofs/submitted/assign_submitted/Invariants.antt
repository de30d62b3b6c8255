use Rattle.std.proofs.Common.{◌≡◌, ◌++◌, map, take}
use Rattle.run_plan.specs.Submitted.{macro_of_assignment}
use Rattle.run_plan.proofs.submitted.assign_submitted.Given as goal

abbrev pub invariant-loop-one : goal.invariant-loop-one
invariant-loop-one l = record {
  items : l.macros.assigned ≡ l.fn.macros.assigned ++ map macro_of_assignment (take l.one-index l.assignments);
  job : l.macros.job ≡ l.fn.macros.job;
}
