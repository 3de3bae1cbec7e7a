use Rattle.bit_lanes.specs.Places.{AreClear}
use Rattle.bit_lanes.proofs.ranges.least_bit.Given as goal

abbrev pub invariant-bits : goal.invariant-bits
invariant-bits l = AreClear l.bits l.from l.place
