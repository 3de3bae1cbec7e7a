use Rattle.std.proofs.Common.{refl, sym, ◌∙◌}
use Rattle.view_change.proofs.EndsRead.{order-more}
use Rattle.view_change.proofs.leaf_read.ends_of.Goals as goal

pub items-preserved : goal.items-preserved
items-preserved g c oid =
    order-more g.K.TreeKey.shape c.args.node.now oid c.items.i _ c.key-key.result c.items.last c.rank-last-in-items.result refl c.key-key.ensures (sym c.is_misplaced.ensures ∙ c.if-is_misplaced.false) c.rank-last-in-items.ensures (c.items.invariant oid)
