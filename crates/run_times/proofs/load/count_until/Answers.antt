use Rattle.std.proofs.Common.{sym, arith, rules}
use Rattle.std.proofs.lemmas.List.Sorted.{IsPartitionPoint-from_clause, IsPartitionedBy-leb}
use Rattle.std.specs.Prelude.{nat_le}
use Rattle.run_times.proofs.Levels.{counted}
use Rattle.run_times.proofs.load.count_until.Goals as goal

pub returns : goal.returns
returns c =
    let times = c.args.times.now in
    let time = c.args.time in
    let point = IsPartitionPoint-from_clause (λ one. nat_le one time) times c.partition_point.result c.partition_point.ensures.partitioned (IsPartitionedBy-leb (λ one. one) times time c.requires)
    (λ a r f k. search rules) in
    sym (counted (λ one. nat_le one time) times c.partition_point.result c.partition_point.ensures.bound (λ k low. point.0 k 0 (omega arith) low) (λ k from inside. point.1 k 0 from inside))
