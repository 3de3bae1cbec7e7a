use Rattle.std.proofs.Common.{ℕ, ◌<◌, length, get_or, arith}
use Rattle.fs_record.specs.declared.extents.FileExt.{FileExt}
use Rattle.apfs_check.proofs.Adding.{items-more, at-place, item-in}
use Rattle.apfs_check.proofs.views.put_all_short.Goals as goal

pub more-preserved : goal.more-preserved
more-preserved c =
    let none : ℕ × FileExt = (0, record { logical = 0; length = 0; block = 0 }) in
    let i = c.more.extent-index in
    let xs = c.args.more.now in
    let low : i < length xs = omega arith in
    let x = get_or xs i none in
    let same = at-place xs i none low in
    record {
      added = λ short. items-more xs i x c.args.extents.now.items c.more.extents.items c.put_short.new.extents.items low same (c.more.invariant.added short) (c.in_ok-put_short.ensures.added (short x (item-in xs i x low same)));
      short = λ old. c.in_ok-put_short.ensures.short (c.more.invariant.short old);
    }
