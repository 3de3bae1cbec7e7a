use Rattle.std.proofs.Common.{arith}
use Rattle.id_lists.proofs.InOrder.{between-count}
use Rattle.id_lists.proofs.search.count.Goals as goal

pub overflow_sub-result : goal.overflow_sub-result
overflow_sub-result g c =
    let sum = between-count g.B.OrderBy.id c.args.list.now c.args.id c.below-from.result c.up_to-to.result c.below-from.ensures.bound c.up_to-to.ensures.bound c.below-from.ensures.split c.up_to-to.ensures.split in
    omega arith

pub returns : goal.returns
returns g c =
    let sum = between-count g.B.OrderBy.id c.args.list.now c.args.id c.below-from.result c.up_to-to.result c.below-from.ensures.bound c.up_to-to.ensures.bound c.below-from.ensures.split c.up_to-to.ensures.split in
    omega arith
