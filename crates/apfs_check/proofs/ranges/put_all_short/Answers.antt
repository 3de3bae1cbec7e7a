use Rattle.std.proofs.Common.{◌<◌, length, pos, get_or, arith}
use Rattle.ext_ref.specs.declared.range.NewRange.{NewRange}
use Rattle.apfs_check.proofs.Adding.{items-more, at-place}
use Rattle.apfs_check.proofs.ranges.put_all_short.Goals as goal

pub more-preserved : goal.more-preserved
more-preserved c =
    let none : NewRange = record { first = 0; length = 0; count = pos 0 } in
    let i = c.more.range-index in
    let xs = c.args.more.now in
    let low : i < length xs = omega arith in
    record {
      added = λ short. items-more xs i (get_or xs i none) c.args.ranges.now.items c.more.ranges.items c.put_short.new.ranges.items low (at-place xs i none low) (c.more.invariant.added short) (c.in_ok-put_short.ensures.added (short i none low));
      short = λ old. c.in_ok-put_short.ensures.short (c.more.invariant.short old);
    }
