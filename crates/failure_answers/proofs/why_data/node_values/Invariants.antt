use Rattle.std.proofs.Common.{◌≡◌, map, take}
use Rattle.serde_json.specs.View.{view}
use Rattle.failure_answers.specs.WhyData.{found_data}
use Rattle.failure_answers.proofs.why_data.node_values.Given as goal

abbrev pub invariant-loop-node : goal.invariant-loop-node
invariant-loop-node l = map view l.values.items ≡ map (found_data l.core.plan l.core.past) (take l.node-index l.nodes)
