use Rattle.std.proofs.Common.{rules, of_calls}
use Rattle.std.specs.Prelude.{nat_lt}
use Rattle.std.proofs.lemmas.List.Sorted.{IsPartitionPoint-from_clause, IsPartitionedBy-ltb}
use Rattle.id_lists.proofs.search.searched.Goals as goal

pub returns-clause-split : goal.returns-clause-split
returns-clause-split g c =
    IsPartitionPoint-from_clause (λ x. nat_lt (g.B.OrderBy.id x) c.args.id) c.args.list.now c.partition_point.result c.partition_point.ensures.partitioned (IsPartitionedBy-ltb g.B.OrderBy.id c.args.list.now c.args.id c.requires) (λ a r f k. search (rules, of_calls))
