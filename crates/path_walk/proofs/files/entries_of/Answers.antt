use Rattle.std.proofs.Common.{rules, of_calls, ◌==◌}
use Rattle.std.proofs.lemmas.List.Sorted.{IsPartitionPoint-from_clause}
use Rattle.path_walk.proofs.Rising.{same_partitioned}
use Rattle.path_walk.proofs.files.entries_of.Goals as goal

pub returns-clause-split : goal.returns-clause-split
returns-clause-split c first =
    IsPartitionPoint-from_clause (λ f. f.id == c.args.id) c.args.entries.now c.partition_point.result c.partition_point.ensures.partitioned (same_partitioned c.args.id c.args.entries.now first) (λ a r f k. search (rules, of_calls))
