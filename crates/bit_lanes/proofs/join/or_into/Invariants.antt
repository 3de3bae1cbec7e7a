use Rattle.std.proofs.Common.{◌≡◌, ℕ, ◌*◌, ltb, cond, get_or}
use Rattle.std.specs.Prelude.{bit_or}
use Rattle.bit_lanes.proofs.join.or_into.Given as goal

abbrev pub invariant-parts : goal.invariant-parts
invariant-parts l = (j : ℕ) → get_or l.into j 0 ≡ cond (ltb j (64 * l.part)) (bit_or (get_or l.fn.into j 0) (get_or l.from j 0)) (get_or l.fn.into j 0)

abbrev pub invariant-bytes : goal.invariant-bytes
invariant-bytes l = (j : ℕ) → get_or l.into j 0 ≡ cond (ltb j l.i) (bit_or (get_or l.fn.into j 0) (get_or l.from j 0)) (get_or l.fn.into j 0)
