use Rattle.std.proofs.Common.{rules, of_calls}
use Rattle.std.specs.Ordering.{is_lt}
use Rattle.std.proofs.lemmas.List.Sorted.{IsPartitionPoint-from_clause}
use Rattle.rule_index.specs.Keys.{Key, key_cmp}
use Rattle.rule_index.proofs.CountingKeys.{below-first}
use Rattle.rule_index.proofs.key_counts.below.Goals as goal

pub returns-clause-split : goal.returns-clause-split
returns-clause-split c =
    IsPartitionPoint-from_clause (λ (k : Key). is_lt (key_cmp k c.args.key.now)) c.args.keys.now c.partition_point.result c.partition_point.ensures.partitioned (below-first c.args.keys.now c.args.key.now c.requires) (λ a r f k. search (rules, of_calls))
