use Rattle.std.proofs.Common.{◌≡◌, ◌+◌, ◌++◌, drop, length}
use Rattle.img_edit.specs.Nodes as spec
use Rattle.img_edit.specs.Nodes.{Pair}
use Rattle.img_edit.proofs.node.add_table.Given as goal

abbrev pub invariant-items : goal.invariant-items
invariant-items l =
    (l.block.items ++ spec.table_of l.fixed l.key l.value (drop l.item-index l.items) ≡ l.fn.block.items ++ spec.table_of l.fixed 0 0 l.items)
    × (l.key + length (spec.keys_of (drop l.item-index l.items)) ≡ length (spec.keys_of l.items))
    × (l.value + length (spec.values_of (drop l.item-index l.items)) ≡ length (spec.values_of l.items))
