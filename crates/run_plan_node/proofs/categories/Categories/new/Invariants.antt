use Rattle.std.proofs.Common.{take}
use Rattle.run_plan_node.specs.Categories.{AreFound}
use Rattle.run_plan_node.proofs.categories.Categories.new.Given as goal

abbrev pub invariant-loop-place : goal.invariant-loop-place
invariant-loop-place l = AreFound (take l.place l.limits) l.names l.places.items
