use Rattle.std.proofs.Common.{◌≡◌, ◌+◌, ◌*◌, ◌≤◌}
use Rattle.bit_lanes.specs.Bits.{ones_below}
use Rattle.bit_lanes.proofs.count.ones_at.Given as goal

abbrev pub invariant-words : goal.invariant-words
invariant-words l = record {
  small : l.ones ≤ 64 * l.word-index;
  ones : ones_below l.bytes (8 * l.at) + l.ones ≡ ones_below l.bytes (8 * (l.at + 8 * l.word-index));
}
