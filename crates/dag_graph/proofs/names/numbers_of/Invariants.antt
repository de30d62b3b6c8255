use Rattle.std.proofs.Common.{map, take}
use Rattle.std.specs.HashMap.{get_by_text}
use Rattle.dag_graph.specs.Names.{GivesPlaces}
use Rattle.dag_graph.proofs.names.numbers_of.Given as goal

abbrev pub invariant-loop-number : goal.invariant-loop-number
invariant-loop-number l = GivesPlaces (get_by_text l.numbers) (map (λ n. n.name) (take l.number l.dag.nodes))
