-- The items so far are in order, whatever the id of the node.
use Rattle.std.proofs.Common.{ℕ}
use Rattle.view_change.proofs.EndsRead.{items_to, AreInOrder}
use Rattle.view_change.proofs.leaf_read.ends_of.Given as goal

abbrev pub invariant-items : goal.invariant-items
invariant-items g l = (oid : ℕ) → AreInOrder g.K.TreeKey.shape (items_to g.K.TreeKey.shape l.node oid l.i) l.last
