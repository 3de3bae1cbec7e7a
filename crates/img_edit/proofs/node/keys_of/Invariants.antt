use Rattle.std.proofs.Common.{◌≡◌, ◌++◌, drop}
use Rattle.img_edit.specs.Nodes as spec
use Rattle.img_edit.proofs.node.keys_of.Given as goal

abbrev pub invariant-items : goal.invariant-items
invariant-items l = l.keys.items ++ spec.keys_of (drop l.item-index l.items) ≡ spec.keys_of l.items
