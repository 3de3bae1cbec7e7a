use Rattle.std.proofs.Common.{◌≡◌}
use Rattle.bit_lanes.specs.Bits.{ones_below}
use Rattle.own_settle.proofs.chunks.ones_in.Given as goal

abbrev pub invariant-rest : goal.invariant-rest
invariant-rest l = l.ones ≡ ones_below l.bits l.place
