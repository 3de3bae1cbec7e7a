use Rattle.std.proofs.Common.{ℕ, ◌<◌}
use Rattle.reach_gather.proofs.Onces.{IsOneAt}
use Rattle.reach_gather.proofs.once.beside.Given as goal

abbrev pub invariant-loop-i : goal.invariant-loop-i
invariant-loop-i l = (k : ℕ) → k < l.i → IsOneAt l.namings k
