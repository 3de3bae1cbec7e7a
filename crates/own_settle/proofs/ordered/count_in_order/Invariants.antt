use Rattle.std.proofs.Common.{◌≡◌, ℕ, ◌+◌, ◌≤◌, take, get_or}
use Rattle.own_settle.specs.InOrder.{AreInOrder, blocks_in}
use Rattle.own_settle.proofs.ordered.count_in_order.Given as goal

abbrev pub invariant-each : goal.invariant-each
invariant-each l = record {
  order : AreInOrder 0 l.end (take l.range-index l.ranges);
  inside : l.end ≤ l.blocks;
  count : l.number ≡ blocks_in (take l.range-index l.ranges);
  few : l.number ≤ l.end;
  none : l.range-index ≡ 0 → l.end ≡ 0;
  last : (k : ℕ) → k + 1 ≡ l.range-index → l.end ≡ (get_or l.ranges k (0, 0)).0 + (get_or l.ranges k (0, 0)).1;
}
