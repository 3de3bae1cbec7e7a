use Rattle.std.proofs.Common.{rules, of_calls}
use Rattle.std.specs.Prelude.{nat_le}
use Rattle.std.proofs.lemmas.List.Sorted.{IsPartitionPoint-from_clause}
use Rattle.ext_ref.specs.declared.covering.Span.{Span}
use Rattle.ext_ref.proofs.Spans.{partitioned}
use Rattle.ext_ref.proofs.covering.count_by.Goals as goal

pub returns-clause-split : goal.returns-clause-split
returns-clause-split c =
    IsPartitionPoint-from_clause (λ (s : Span). nat_le s.first c.args.block) c.args.spans.now c.partition_point.result c.partition_point.ensures.partitioned
    (partitioned c.args.spans.now c.args.block c.requires) (λ a r f k. search (rules, of_calls))
