use Rattle.std.proofs.Common.{◌≡◌, map}
use Rattle.std.specs.List.{flat_map}
use Rattle.img_edit.specs.Nodes.{Pair}
use Rattle.img_edit.proofs.node.values_of.Given as goal

abbrev pub invariant-items : goal.invariant-items
invariant-items l = l.values.items ≡ flat_map (λ (item : Pair). item.1.items) (map (λ y. y.now) l.yielded)
