use Rattle.std.proofs.lemmas.List.Sorted.{searched}
use Rattle.ready_queue.proofs.Indexed.{never-falls}
use Rattle.ready_queue.proofs.nodes.place_in.Goals as goal

pub returns : goal.returns
returns c = searched c.args.nodes.now c.args.node c.binary_search.result c.binary_search.ensures.position (never-falls c.args.nodes.now c.requires)
