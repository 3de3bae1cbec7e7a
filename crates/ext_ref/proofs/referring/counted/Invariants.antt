use Rattle.std.proofs.Common.{◌≡◌, map, take}
use Rattle.ext_ref.specs.References.{streams_of}
use Rattle.ext_ref.proofs.referring.counted.Given as goal

abbrev pub invariant-loop-range : goal.invariant-loop-range
invariant-loop-range l = l.counts.items ≡ map (streams_of l.block_size l.extents) (take l.range-index l.ranges)
