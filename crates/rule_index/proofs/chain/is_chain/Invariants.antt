use Rattle.std.proofs.Common.{◌≡◌, ℕ, ◌+◌, ◌<◌, ◌≤◌, true, get_or}
use Rattle.rule_index.proofs.chain.is_chain.Given as goal

abbrev pub invariant-loop-i : goal.invariant-loop-i
invariant-loop-i g l = (1 ≤ l.i) × ((k : ℕ) (d : g.row.T.Denot) → k + 1 < l.i → g.B.Follows.follows (get_or l.list k d) (get_or l.list (k + 1) d) ≡ true)
