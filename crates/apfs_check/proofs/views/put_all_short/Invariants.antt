use Rattle.std.proofs.Common.{◌≡◌, ◌++◌, take}
use Rattle.ext_ref.specs.Left.{AreShortExtents}
use Rattle.apfs_check.specs.DataSteps.{AreShortOrHoles}
use Rattle.apfs_check.proofs.views.put_all_short.Given as goal

abbrev pub invariant-more : goal.invariant-more
invariant-more l = record {
  added : AreShortOrHoles l.block_size l.more → l.extents.items ≡ l.fn.extents.items ++ take l.extent-index l.more;
  short : AreShortExtents l.block_size l.fn.extents.items → AreShortExtents l.block_size l.extents.items;
}
