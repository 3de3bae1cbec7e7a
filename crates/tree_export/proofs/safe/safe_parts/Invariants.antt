use Rattle.std.proofs.Common.{◌≡◌, map, take}
use Rattle.tree_export.specs.Safe.{safe_part}
use Rattle.tree_export.proofs.safe.safe_parts.Given as goal

abbrev pub invariant-loop-part : goal.invariant-loop-part
invariant-loop-part l = map (λ part. part.now) l.safe.items ≡ map (λ part. safe_part part.now) (take l.part-index l.parts)
