use Rattle.std.proofs.Common.{◌≡◌, ℕ, ltb, cond, get_or}
use Rattle.std.specs.Prelude.{bit_and}
use Rattle.bit_lanes.proofs.join.and_into.Given as goal

abbrev pub invariant-bytes : goal.invariant-bytes
invariant-bytes l = (j : ℕ) → get_or l.into j 0 ≡ cond (ltb j l.i) (bit_and (get_or l.fn.into j 0) (get_or l.from j 0)) (get_or l.fn.into j 0)
