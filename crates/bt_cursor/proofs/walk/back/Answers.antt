use Rattle.std.proofs.Common.{◌≡◌, ◌++◌, [], ◌∷◌, length, ap, arith, length-append, rules}
use Rattle.bt_cursor.specs.Tree.{tree_by}
use Rattle.bt_cursor.proofs.Ways.{IsWay-up, IsIn-up}
use Rattle.bt_cursor.proofs.walk.back.Goals as goal

pub climb-preserved : goal.climb-preserved
climb-preserved g c =
    let taken : c.climb.way.above.items ≡ c.up.new.way.above.items ++ c.up.new.way.last ∷ [] = search rules in
    let spare : c.up.new.way.spare.items ≡ c.climb.way.spare.items ++ c.climb.way.last ∷ [] = search rules in
    record {
      way = IsWay-up g.K.TreeKey.shape c.args.site.now c.up.new.way.above.items c.climb.way.above.items c.up.new.way.last c.climb.way.last c.climb.way.spare.items c.up.new.way.spare.items c.climb.invariant.way taken spare;
      depth = omega (arith, c.climb.invariant.depth, ap length taken, ap length spare, length-append c.up.new.way.above.items (c.up.new.way.last ∷ []), length-append c.climb.way.spare.items (c.climb.way.last ∷ []));
      within = λ look root within. IsIn-up (tree_by g.K.TreeKey.shape look) root c.up.new.way.above.items c.climb.way.above.items c.up.new.way.last c.climb.way.last (c.climb.invariant.within look root within) taken;
    }
