use Rattle.std.proofs.Common.{◌≡◌, ◌≤◌, ◌+◌, ℕ, List, Some, length, All}
use Rattle.apfs_model.specs.Kept.{IsKept}
use Rattle.bt_node.specs.Node.{level_of}
use Rattle.bt_cursor.specs.Tree.{tree_in}
use Rattle.bt_cursor.specs.Stack.{IsWay, IsIn}
use Rattle.bt_cursor.specs.Ahead.{depth_way}
use Rattle.bt_cursor.specs.Search.{IsCutStep}
use Rattle.bt_cursor.proofs.seek.find.Given as goal

abbrev pub invariant-descend : goal.invariant-descend
invariant-descend g l = record {
  way : IsWay g.K.TreeKey.shape l.site l.way.above.items l.way.last l.way.spare.items;
  within : (image : List ℕ) → g.S.BlockSource.bytes l.fn.src ≡ Some image → (root : ℕ) → IsIn (tree_in g.K.TreeKey.shape l.site (g.N.Namer.named l.namer) image) root l.fn.way.above.items l.fn.way.last → IsIn (tree_in g.K.TreeKey.shape l.site (g.N.Namer.named l.namer) image) root l.way.above.items l.way.last;
  cuts : All (IsCutStep g.K.TreeKey.shape l.rank) l.way.above.items;
  depth : depth_way l.way ≡ depth_way l.fn.way;
  reads : g.S.BlockSource.reads l.src + length l.way.spare.items ≤ g.S.BlockSource.reads l.fn.src + depth_way l.fn.way;
  kept : IsKept g.S.BlockSource.bytes g.S.BlockSource.bytes_len g.S.BlockSource.faults l.fn.src l.src;
}

abbrev pub decreases-descend : goal.decreases-descend
decreases-descend g l = level_of l.way.last.block.items
