use Rattle.std.proofs.Common.{◌≡◌, map, take}
use Rattle.path_read.specs.Attributes.{attribute_told}
use Rattle.path_read.proofs.attributes.told.Given as goal

abbrev pub invariant-loop-attribute : goal.invariant-loop-attribute
invariant-loop-attribute l = l.told.items ≡ map attribute_told (take l.attribute-index l.attributes)
