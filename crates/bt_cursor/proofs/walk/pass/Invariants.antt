use Rattle.std.proofs.Common.{◌≡◌, ◌<◌, ◌≤◌, ◌+◌, ℕ, List, Some}
use Rattle.apfs_model.specs.Kept.{IsKept}
use Rattle.bt_node.specs.Node.{level_of, count_of}
use Rattle.bt_cursor.specs.Tree.{tree_in}
use Rattle.bt_cursor.specs.Gaps.{all_flat}
use Rattle.bt_cursor.specs.Stack.{IsWay, IsIn}
use Rattle.bt_cursor.specs.Ahead.{gapped_ahead, depth_way, ReadsPast}
use Rattle.bt_cursor.specs.Fuel.{fuel_way}
use Rattle.bt_cursor.proofs.walk.pass.Given as goal

abbrev pub invariant-descend : goal.invariant-descend
invariant-descend g l = record {
  way : IsWay g.K.TreeKey.shape l.site l.way.above.items l.way.last l.way.spare.items;
  left : l.way.last.next < count_of l.way.last.block.items;
  same : (image : List ℕ) → g.S.BlockSource.bytes l.fn.src ≡ Some image → all_flat (gapped_ahead (tree_in g.K.TreeKey.shape l.site (g.N.Namer.named l.namer) image) l.way) ≡ all_flat (gapped_ahead (tree_in g.K.TreeKey.shape l.site (g.N.Namer.named l.namer) image) l.fn.way);
  reads : (image : List ℕ) → g.S.BlockSource.bytes l.fn.src ≡ Some image → ReadsPast (tree_in g.K.TreeKey.shape l.site (g.N.Namer.named l.namer) image) (g.S.BlockSource.reads l.fn.src) l.fn.way (g.S.BlockSource.reads l.src) l.way;
  few : g.S.BlockSource.reads l.src + level_of l.way.last.block.items ≤ g.S.BlockSource.reads l.fn.src + depth_way l.fn.way;
  depth : depth_way l.way ≡ depth_way l.fn.way;
  fuel : fuel_way l.way ≤ fuel_way l.fn.way;
  within : (image : List ℕ) → g.S.BlockSource.bytes l.fn.src ≡ Some image → (root : ℕ) → IsIn (tree_in g.K.TreeKey.shape l.site (g.N.Namer.named l.namer) image) root l.fn.way.above.items l.fn.way.last → IsIn (tree_in g.K.TreeKey.shape l.site (g.N.Namer.named l.namer) image) root l.way.above.items l.way.last;
  kept : IsKept g.S.BlockSource.bytes g.S.BlockSource.bytes_len g.S.BlockSource.faults l.fn.src l.src;
}

abbrev pub decreases-descend : goal.decreases-descend
decreases-descend g l = level_of l.way.last.block.items
