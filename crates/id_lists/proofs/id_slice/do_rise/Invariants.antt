use Rattle.std.proofs.Common.{ℕ, ◌+◌, ◌<◌, ◌≤◌, get_or}
use Rattle.id_lists.proofs.id_slice.do_rise.Given as goal

abbrev pub invariant-loop-i : goal.invariant-loop-i
invariant-loop-i g l = (1 ≤ l.i) × ((k : ℕ) (d : g.row.T.Denot) → k + 1 < l.i → g.B.OrderBy.id (get_or l.list k d) < g.B.OrderBy.id (get_or l.list (k + 1) d))
