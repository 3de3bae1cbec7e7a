use Rattle.std.proofs.Common.{rules, of_calls, nat_lt}
use Rattle.std.proofs.lemmas.List.Sorted.{IsPartitionPoint-from_clause}
use Rattle.view_sweep.specs.declared.wanted.SweptView.{SweptView}
use Rattle.view_sweep.proofs.Stretches.{before-split}
use Rattle.view_sweep.proofs.next.count_before.Goals as goal

pub returns-clause-split : goal.returns-clause-split
returns-clause-split c =
    IsPartitionPoint-from_clause (λ (v : SweptView). nat_lt v.xid c.args.xid) c.args.views.now c.partition_point.result c.partition_point.ensures.partitioned
    (before-split c.args.views.now c.args.xid c.requires) (λ a r f k. search (rules, of_calls))
