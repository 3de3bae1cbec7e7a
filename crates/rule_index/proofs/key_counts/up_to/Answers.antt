use Rattle.std.proofs.Common.{rules, of_calls}
use Rattle.std.specs.Ordering.{is_le}
use Rattle.std.proofs.lemmas.List.Sorted.{IsPartitionPoint-from_clause}
use Rattle.rule_index.specs.Keys.{Key, key_cmp}
use Rattle.rule_index.proofs.CountingKeys.{up-to-first}
use Rattle.rule_index.proofs.key_counts.up_to.Goals as goal

pub returns-clause-split : goal.returns-clause-split
returns-clause-split c =
    IsPartitionPoint-from_clause (λ (k : Key). is_le (key_cmp k c.args.key.now)) c.args.keys.now c.partition_point.result c.partition_point.ensures.partitioned (up-to-first c.args.keys.now c.args.key.now c.requires) (λ a r f k. search (rules, of_calls))
