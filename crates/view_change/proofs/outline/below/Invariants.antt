-- The separators so far are opened.
use Rattle.std.proofs.Common.{◌≡◌, ◌+◌, ◌≤◌, ℕ, List, Some, take}
use Rattle.apfs_model.specs.Kept.{IsKept}
use Rattle.bt_cursor.specs.Tree.{tree_in}
use Rattle.view_change.specs.Outline.{reads_in}
use Rattle.view_change.proofs.Outlines.{AreOpened}
use Rattle.view_change.proofs.outline.below.Given as goal

abbrev pub invariant-separators : goal.invariant-separators
invariant-separators g l = record {
  opened : (image : List ℕ) → g.S.BlockSource.bytes l.fn.src ≡ Some image → AreOpened (tree_in g.K.TreeKey.shape l.site (g.N.Namer.named l.namer) image) l.outline.level (take l.next-index l.next-items) l.separators.items;
  few : g.S.BlockSource.reads l.src ≤ g.S.BlockSource.reads l.fn.src + reads_in (take l.next-index l.next-items);
  kept : IsKept g.S.BlockSource.bytes g.S.BlockSource.bytes_len g.S.BlockSource.faults l.fn.src l.src;
}
