-- The extents that were passed are laid.
use Rattle.std.proofs.Common.{◌≡◌, ℕ, List, Some}
use Rattle.apfs_model.specs.Kept.{IsKept}
use Rattle.bt_cursor.specs.Tree.{tree_in}
use Rattle.bt_cursor.specs.Cursors.{site_of, root_of, tree_of, gapped_left_of, fuel_of, IsOn}
use Rattle.file_extent.specs.Laid.{AreLaid}
use Rattle.file_extent.specs.Collected.{IsCollected}
use Rattle.file_extent.proofs.collect.collect.Given as goal

abbrev pub invariant-walk : goal.invariant-walk
invariant-walk g l = record {
  same_site : site_of l.cursor ≡ l.site;
  same_root : root_of l.cursor ≡ l.root;
  same_tree : tree_of l.cursor ≡ tree_in g.K.TreeKey.shape l.site (g.N.Namer.named l.fn.namer);
  kept : IsKept g.S.BlockSource.bytes g.S.BlockSource.bytes_len g.S.BlockSource.faults l.fn.src l.src;
  laid : AreLaid l.site l.extents.items;
  within : (image : List ℕ) → g.S.BlockSource.bytes l.fn.src ≡ Some image → IsOn image l.cursor;
  collected : (image : List ℕ) → g.S.BlockSource.bytes l.fn.src ≡ Some image → IsCollected (tree_in g.K.TreeKey.shape l.site (g.N.Namer.named l.fn.namer) image) l.root l.id (gapped_left_of l.cursor image) l.extents.items;
}

abbrev pub decreases-walk : goal.decreases-walk
decreases-walk g l = fuel_of l.cursor
