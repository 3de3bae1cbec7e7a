use Rattle.std.proofs.Common.{◌≤◌}
use Rattle.rule_breaks.specs.Order.{Follow}
use Rattle.rule_breaks.proofs.order.crossing.Given as goal

abbrev pub invariant-loop-i : goal.invariant-loop-i
invariant-loop-i l = (1 ≤ l.i) × Follow l.pieces l.i
