use Rattle.std.proofs.Common.{◌≡◌, ℕ, ◌*◌, ◌<◌, get_or}
use Rattle.bit_lanes.proofs.differ.equal_parts.Given as goal

abbrev pub invariant-parts : goal.invariant-parts
invariant-parts l = (i : ℕ) → i < 64 * l.part → get_or l.a i 0 ≡ get_or l.b i 0
