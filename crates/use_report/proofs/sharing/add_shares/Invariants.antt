use Rattle.std.proofs.Common.{◌≡◌, ℕ, List, Some, length, take}
use Rattle.apfs_model.specs.Kept.{IsKept}
use Rattle.use_report.specs.Runs.{AreViewSets}
use Rattle.use_report.specs.Sharing.{AreShared}
use Rattle.use_report.proofs.sharing.add_shares.Given as goal

abbrev pub invariant-shares : goal.invariant-shares
invariant-shares g l = record {
  held : (image : List ℕ) → g.S.BlockSource.bytes l.fn.src ≡ Some image → AreShared image l.site l.sets l.many (take l.share-index l.shares) l.held.all;
  sets : (image : List ℕ) → g.S.BlockSource.bytes l.fn.src ≡ Some image → AreViewSets l.sets l.many l.held.all.sets.items;
  long : length l.block.items ≡ l.site.block_size;
  kept : IsKept g.S.BlockSource.bytes g.S.BlockSource.bytes_len g.S.BlockSource.faults l.fn.src l.src;
}
