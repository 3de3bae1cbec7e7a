use Rattle.std.proofs.Common.{◌≡◌, ◌*◌}
use Rattle.apfs_model.specs.Counts.{given}
use Rattle.bit_lanes.specs.Bits.{ones_below}
use Rattle.bit_lanes.proofs.count.count_ones.Given as goal

abbrev pub invariant-parts : goal.invariant-parts
invariant-parts l = l.count ≡ given (ones_below l.bytes (8 * (64 * l.part)))

abbrev pub invariant-bytes : goal.invariant-bytes
invariant-bytes l = l.count ≡ given (ones_below l.bytes (8 * l.i))
