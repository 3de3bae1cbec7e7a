use Rattle.std.proofs.Common.{◌+◌, ◌*◌, min}
use Rattle.bit_lanes.specs.Places.{AreClear}
use Rattle.bit_lanes.proofs.ranges.least_in_bytes.Given as goal

abbrev pub invariant-parts : goal.invariant-parts
invariant-parts l = AreClear l.bits (8 * l.from) (8 * min l.to (l.from + 64 * l.part))
