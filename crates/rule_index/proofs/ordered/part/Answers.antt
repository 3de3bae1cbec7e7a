use Rattle.std.proofs.Common.{arith}
use Rattle.id_lists.proofs.InOrder.{between-count}
use Rattle.rule_index.proofs.Runs.{run-is}
use Rattle.rule_index.proofs.ordered.part.Goals as goal

pub slice_bounds-result-count : goal.slice_bounds-result-count
slice_bounds-result-count g c =
    let sum = between-count g.B.OrderBy.id c.args.list.now c.args.id c.below-from.result c.up_to-to.result c.below-from.ensures.bound c.up_to-to.ensures.bound c.below-from.ensures.split c.up_to-to.ensures.split in
    omega arith

pub slice_bounds-result-start : goal.slice_bounds-result-start
slice_bounds-result-start g c =
    let sum = between-count g.B.OrderBy.id c.args.list.now c.args.id c.below-from.result c.up_to-to.result c.below-from.ensures.bound c.up_to-to.ensures.bound c.below-from.ensures.split c.up_to-to.ensures.split in
    omega arith

pub returns : goal.returns
returns g c = run-is g.B.OrderBy.id c.args.list.now c.args.id c.below-from.result c.up_to-to.result c.below-from.ensures.bound c.up_to-to.ensures.bound c.below-from.ensures.split c.up_to-to.ensures.split
