use Rattle.std.proofs.Common.{rules, of_calls, nat_le}
use Rattle.std.proofs.lemmas.List.Sorted.{IsPartitionPoint-from_clause}
use Rattle.view_sweep.specs.declared.runs.Run.{Run}
use Rattle.view_sweep.proofs.Rises.{ends-split}
use Rattle.view_sweep.proofs.runs.ended.Goals as goal

pub returns-clause-split : goal.returns-clause-split
returns-clause-split c =
    IsPartitionPoint-from_clause (λ (r : Run). nat_le r.end c.args.place) c.args.runs.now c.partition_point.result c.partition_point.ensures.partitioned
    (ends-split c.args.runs.now c.args.place c.requires) (λ a r f k. search (rules, of_calls))
