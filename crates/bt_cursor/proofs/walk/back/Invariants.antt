use Rattle.std.proofs.Common.{◌≡◌, ℕ, length}
use Rattle.bt_cursor.specs.Tree.{Look, tree_by}
use Rattle.bt_cursor.specs.Stack.{IsWay, IsIn}
use Rattle.bt_cursor.specs.Ahead.{depth_way}
use Rattle.bt_cursor.proofs.walk.back.Given as goal

abbrev pub invariant-climb : goal.invariant-climb
invariant-climb g l = record {
  way : IsWay g.K.TreeKey.shape l.site l.way.above.items l.way.last l.way.spare.items;
  depth : depth_way l.way ≡ depth_way l.fn.way;
  within : (look : Look) (root : ℕ) → IsIn (tree_by g.K.TreeKey.shape look) root l.fn.way.above.items l.fn.way.last → IsIn (tree_by g.K.TreeKey.shape look) root l.way.above.items l.way.last;
}

abbrev pub decreases-climb : goal.decreases-climb
decreases-climb g l = length l.way.above.items
