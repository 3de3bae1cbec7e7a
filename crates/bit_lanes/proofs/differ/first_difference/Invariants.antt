use Rattle.std.proofs.Common.{◌≡◌, ℕ, ◌<◌, get_or}
use Rattle.bit_lanes.proofs.differ.first_difference.Given as goal

abbrev pub invariant-bytes : goal.invariant-bytes
invariant-bytes l = (j : ℕ) → j < l.i → get_or l.a j 0 ≡ get_or l.b j 0
