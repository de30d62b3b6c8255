use Rattle.std.proofs.Common.{◌≡◌, ◌++◌, drop}
use Rattle.std.specs.List.{flat_map}
use Rattle.splices_flat.specs.Edges.{all_stand_for, nodes_named, unseen}
use Rattle.splices.specs.LineScope.{seen_by}
use Rattle.splices.proofs.edges.LineScope.nodes_of_many.Given as goal

abbrev pub invariant-loop-word : goal.invariant-loop-word
invariant-loop-word l =
    l.nodes ++ flat_map (nodes_named l.side (seen_by l.self)) (unseen l.seen (drop l.word-index l.words)) ≡ all_stand_for l.side (seen_by l.self) l.words
