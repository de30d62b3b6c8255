use Rattle.std.proofs.Common.{◌≡◌, map, take}
use Rattle.failure_report.specs.Found.{reported_as}
use Rattle.failure_report.proofs.found.nodes_of.Given as goal

abbrev pub invariant-loop-one : goal.invariant-loop-one
invariant-loop-one g l = map reported_as l.nodes.items ≡ take l.one-index l.reported
