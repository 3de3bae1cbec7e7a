use Rattle.std.proofs.Common.{rules, of_calls}
use Rattle.std.specs.Prelude.{nat_lt}
use Rattle.std.proofs.lemmas.List.Sorted.{IsPartitionPoint-from_clause}
use Rattle.path_walk.proofs.Rising.{below_partitioned}
use Rattle.path_walk.proofs.files.searched.Goals as goal

pub returns-clause-split : goal.returns-clause-split
returns-clause-split c rises =
    IsPartitionPoint-from_clause (λ f. nat_lt f.id c.args.id) c.args.inodes.now c.partition_point.result c.partition_point.ensures.partitioned (below_partitioned c.args.id c.args.inodes.now rises) (λ a r f k. search (rules, of_calls))
