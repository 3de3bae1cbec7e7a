use Rattle.std.proofs.Common.{rules, of_calls}
use Rattle.std.proofs.lemmas.List.Sorted.{IsPartitionPoint-from_clause}
use Rattle.omap_map.specs.Search.{is_by}
use Rattle.omap_map.proofs.Splits.{partitioned}
use Rattle.view_sweep.proofs.next.count_by.Goals as goal

pub returns-clause-split : goal.returns-clause-split
returns-clause-split c =
    IsPartitionPoint-from_clause (is_by c.args.oid c.args.xid) c.args.records.now c.partition_point.result c.partition_point.ensures.partitioned
    (partitioned c.args.oid c.args.xid c.args.records.now c.requires) (λ a r f k. search (rules, of_calls))
