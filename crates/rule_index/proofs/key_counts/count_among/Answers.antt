use Rattle.std.proofs.Common.{arith}
use Rattle.rule_index.proofs.CountingKeys.{between-keys}
use Rattle.rule_index.proofs.key_counts.count_among.Goals as goal

pub overflow_sub-result : goal.overflow_sub-result
overflow_sub-result c =
    let sum = between-keys c.args.keys.now c.args.key.now c.below.result c.up_to.result c.below.ensures.bound c.up_to.ensures.bound c.below.ensures.split c.up_to.ensures.split in
    omega arith

pub returns : goal.returns
returns c =
    let sum = between-keys c.args.keys.now c.args.key.now c.below.result c.up_to.result c.below.ensures.bound c.up_to.ensures.bound c.below.ensures.split c.up_to.ensures.split in
    omega arith
