use Rattle.std.proofs.Common.{◌<◌, length, pos, arith}
use Rattle.ext_ref.specs.declared.range.NewRange.{NewRange}
use Rattle.apfs_check.proofs.DataTold.{wrong-more}
use Rattle.apfs_check.proofs.data.miscounts.Goals as goal

pub each-preserved : goal.each-preserved
each-preserved c block_size extents same =
    let none : NewRange = record { first = 0; length = 0; count = pos 0 } in
    let low : c.each.i < length c.args.ranges.now = omega arith in
    wrong-more block_size extents c.args.ranges.now c.args.counts.now c.each.i none c.each.wrong.items c.put_wrong.new.wrong.items low same (omega (arith, c.type_inv.counts c.each.i)) (c.each.invariant block_size extents same) c.in_ok-put_wrong.ensures
