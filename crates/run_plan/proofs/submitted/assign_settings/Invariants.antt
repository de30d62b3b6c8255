use Rattle.std.proofs.Common.{◌≡◌, ◌++◌, map, filter, take}
use Rattle.run_plan.specs.Submitted.{macro_of_setting, has_placement}
use Rattle.run_plan.proofs.submitted.assign_settings.Given as goal

abbrev pub invariant-loop-one : goal.invariant-loop-one
invariant-loop-one l = record {
  items : l.macros.assigned ≡ l.fn.macros.assigned ++ map macro_of_setting (filter (has_placement l.placement) (take l.one-index l.settings));
  job : l.macros.job ≡ l.fn.macros.job;
}
