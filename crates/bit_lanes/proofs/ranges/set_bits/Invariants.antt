use Rattle.std.proofs.Common.{◌≡◌, ℕ, ◌||◌}
use Rattle.apfs_model.specs.Bytes.{bit_at}
use Rattle.bit_lanes.specs.Places.{is_from}
use Rattle.bit_lanes.proofs.ranges.set_bits.Given as goal

abbrev pub invariant-bits : goal.invariant-bits
invariant-bits l = (k : ℕ) → bit_at l.bits k ≡ (bit_at l.fn.bits k || is_from l.from l.place k)
