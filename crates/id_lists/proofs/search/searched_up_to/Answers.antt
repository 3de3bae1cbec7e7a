use Rattle.std.proofs.Common.{rules, of_calls}
use Rattle.std.specs.Prelude.{nat_le}
use Rattle.std.proofs.lemmas.List.Sorted.{IsPartitionPoint-from_clause, IsPartitionedBy-leb}
use Rattle.id_lists.proofs.search.searched_up_to.Goals as goal

pub returns-clause-split : goal.returns-clause-split
returns-clause-split g c =
    IsPartitionPoint-from_clause (λ x. nat_le (g.B.OrderBy.id x) c.args.id) c.args.list.now c.partition_point.result c.partition_point.ensures.partitioned (IsPartitionedBy-leb g.B.OrderBy.id c.args.list.now c.args.id c.requires) (λ a r f k. search (rules, of_calls))
