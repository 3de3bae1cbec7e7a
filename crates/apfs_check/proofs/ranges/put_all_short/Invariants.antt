use Rattle.std.proofs.Common.{◌≡◌, ◌++◌, take}
use Rattle.ext_ref.specs.Left.{AreShort}
use Rattle.apfs_check.proofs.ranges.put_all_short.Given as goal

abbrev pub invariant-more : goal.invariant-more
invariant-more l = record {
  added : AreShort l.more → l.ranges.items ≡ l.fn.ranges.items ++ take l.range-index l.more;
  short : AreShort l.fn.ranges.items → AreShort l.ranges.items;
}
