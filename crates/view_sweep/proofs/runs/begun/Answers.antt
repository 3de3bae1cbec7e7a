use Rattle.std.proofs.Common.{rules, of_calls, nat_lt}
use Rattle.std.proofs.lemmas.List.Sorted.{IsPartitionPoint-from_clause}
use Rattle.view_sweep.specs.declared.runs.Run.{Run}
use Rattle.view_sweep.proofs.Rises.{begins-split}
use Rattle.view_sweep.proofs.runs.begun.Goals as goal

pub returns-clause-split : goal.returns-clause-split
returns-clause-split c =
    IsPartitionPoint-from_clause (λ (r : Run). nat_lt r.from c.args.place) c.args.runs.now c.partition_point.result c.partition_point.ensures.partitioned
    (begins-split c.args.runs.now c.args.place c.requires) (λ a r f k. search (rules, of_calls))
