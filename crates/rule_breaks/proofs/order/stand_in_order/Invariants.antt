use Rattle.std.proofs.Common.{◌≡◌, ℕ, true, ◌+◌, ◌<◌, ◌≤◌, get_or}
use Rattle.fs_record.specs.Facts.{Fact}
use Rattle.fs_record.specs.declared.extents.FileExt.{FileExt}
use Rattle.rule_breaks.specs.Order.{piece, follows}
use Rattle.rule_breaks.proofs.order.stand_in_order.Given as goal

abbrev pub invariant-loop-i : goal.invariant-loop-i
invariant-loop-i l = (1 ≤ l.i) × ((k : ℕ) (d : Fact FileExt) → k + 1 < l.i → follows (piece (get_or l.extents k d)) (piece (get_or l.extents (k + 1) d)) ≡ true)
