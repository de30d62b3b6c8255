use Rattle.std.proofs.Common.{◌≡◌, take, Ok}
use Rattle.std.specs.Prelude.{option_map}
use Rattle.splices_flat.specs.FileSet.{bytes_of}
use Rattle.run_plan.specs.Planned.{marked_sources}
use Rattle.run_plan.specs.Specs.{specs_from}
use Rattle.run_plan.specs.Submitted.{first_plan_fault}
use Rattle.run_plan.proofs.plan.specs_of.Given as goal

abbrev pub invariant-loop-number : goal.invariant-loop-number
invariant-loop-number l = record {
  specs : l.specs.items ≡ specs_from l.graph.dag (marked_sources l.always_post (option_map (λ set. bytes_of set.now) l.files) l.marks) 0 (take l.number l.graph.dag.nodes);
  none : first_plan_fault (option_map (λ set. bytes_of set.now) l.files) (take l.number l.graph.dag.nodes) ≡ Ok tt;
}
