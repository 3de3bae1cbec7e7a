use Rattle.std.proofs.Common.{◌≡◌, ℕ, ◌<◌, get_or}
use Rattle.std.specs.Prelude.{bit_and}
use Rattle.bit_lanes.proofs.join.and_any.Given as goal

abbrev pub invariant-bytes : goal.invariant-bytes
invariant-bytes l = (j : ℕ) → j < l.i → bit_and (get_or l.a j 0) (get_or l.b j 0) ≡ 0
