-- The outline is that of the tree down to its level.
use Rattle.std.proofs.Common.{◌≡◌, ℕ, List, Some, length}
use Rattle.apfs_model.specs.Kept.{IsKept}
use Rattle.bt_cursor.specs.Tree.{tree_in}
use Rattle.view_change.specs.Outline.{IsOutlined}
use Rattle.view_change.proofs.outline.outline_of.Given as goal

abbrev pub invariant-levels : goal.invariant-levels
invariant-levels g l = record {
  outlined : (image : List ℕ) → g.S.BlockSource.bytes l.fn.src ≡ Some image → IsOutlined (tree_in g.K.TreeKey.shape l.site (g.N.Namer.named l.namer) image) l.root (g.S.BlockSource.reads l.fn.src) (g.S.BlockSource.reads l.src) l.outline;
  long : length l.block.items ≡ l.site.block_size;
  kept : IsKept g.S.BlockSource.bytes g.S.BlockSource.bytes_len g.S.BlockSource.faults l.fn.src l.src;
}

abbrev pub decreases-levels : goal.decreases-levels
decreases-levels g l = l.outline.level
