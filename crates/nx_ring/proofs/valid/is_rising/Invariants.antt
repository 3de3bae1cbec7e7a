use Rattle.std.proofs.Common.{ℕ, ◌+◌, ◌<◌, ◌≤◌, length, get_or}
use Rattle.nx_ring.proofs.valid.is_rising.Given as goal

abbrev pub invariant-pairs : goal.invariant-pairs
invariant-pairs l = record { some : 1 ≤ l.i; below : (k : ℕ) → k + 1 < l.i → get_or l.numbers k 0 < get_or l.numbers (k + 1) 0 }
