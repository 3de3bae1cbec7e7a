use Rattle.std.proofs.Common.{◌≡◌, ℕ, ◌*◌, ◌<◌, get_or}
use Rattle.std.specs.Prelude.{bit_and}
use Rattle.bit_lanes.proofs.join.apart_parts.Given as goal

abbrev pub invariant-parts : goal.invariant-parts
invariant-parts l = (i : ℕ) → i < 64 * l.part → bit_and (get_or l.a i 0) (get_or l.b i 0) ≡ 0
