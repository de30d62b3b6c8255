use Rattle.std.proofs.Common.{rules}
use Rattle.std.proofs.lemmas.List.Sorted.{IsPartitionPoint-from_clause}
use Rattle.ready_queue.specs.Queue.{comes_before}
use Rattle.ready_queue.proofs.Places.{parted, parts-at}
use Rattle.ready_queue.proofs.place_of.Goals as goal

pub returns : goal.returns
returns c =
    let members = c.args.members.now in
    let member = c.args.member in
    parts-at members member c.partition_point.result c.partition_point.ensures.bound
    (IsPartitionPoint-from_clause (λ other. comes_before other member) members c.partition_point.result c.partition_point.ensures.partitioned (parted members member c.requires) (λ a r f k. search rules))
