-- The leaves so far were taken.
use Rattle.std.proofs.Common.{◌≡◌, ◌+◌, ◌≤◌, ℕ, List, [], Some, drop, take}
use Rattle.apfs_model.specs.Kept.{IsKept}
use Rattle.bt_cursor.specs.Tree.{tree_in}
use Rattle.view_change.specs.Outline.{reads_in, leaves_in, IsOutlined, IsPassed}
use Rattle.view_change.proofs.walking.pass_all.Given as goal

abbrev pub invariant-separators : goal.invariant-separators
invariant-separators g l = record {
  passed : (start : g.row.T.Denot) (image : List ℕ) (root begun : ℕ) → g.S.BlockSource.bytes l.fn.src ≡ Some image → IsOutlined (tree_in g.K.TreeKey.shape l.site (g.N.Namer.named l.namer) image) root begun (g.S.BlockSource.reads l.fn.src) l.outline → g.T.LeafTaker.holds start l.fn.taker l.site image []
      → IsPassed g.K.TreeKey.shape l.site (g.N.Namer.named l.namer) image root l.outline.info.key_count l.outline.info.node_count (g.T.LeafTaker.holds start l.taker l.site image) begun (g.S.BlockSource.reads l.src) (drop l.next-index l.next-items) l.seen;
  within : (limit : ℕ) → g.T.LeafTaker.goes_within l.fn.taker (leaves_in l.site (g.N.Namer.named l.namer) l.outline.separators.items) (g.S.BlockSource.reads l.fn.src) limit
      → g.T.LeafTaker.goes_within l.taker (leaves_in l.site (g.N.Namer.named l.namer) (drop l.next-index l.next-items)) (g.S.BlockSource.reads l.src) limit;
  few : g.S.BlockSource.reads l.src ≤ g.S.BlockSource.reads l.fn.src + reads_in (take l.next-index l.next-items);
  kept : IsKept g.S.BlockSource.bytes g.S.BlockSource.bytes_len g.S.BlockSource.faults l.fn.src l.src;
}
