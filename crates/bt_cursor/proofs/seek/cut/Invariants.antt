use Rattle.std.proofs.Common.{◌≡◌, ◌≤◌, ◌<◌, ◌+◌, ◌-◌, true, false, ℕ}
use Rattle.bt_node.specs.Node.{count_of}
use Rattle.bt_node.specs.Entries.{pair_of}
use Rattle.bt_cursor.specs.From.{is_below_rank}
use Rattle.bt_cursor.proofs.seek.cut.Given as goal

abbrev pub invariant-halve : goal.invariant-halve
invariant-halve g l = record {
  order : l.low ≤ l.high;
  inside : l.high ≤ count_of l.step.block.items;
  before : (j : ℕ) → j + 1 ≡ l.low → is_below_rank g.K.TreeKey.shape l.rank (pair_of g.K.TreeKey.shape l.step.block.items j) ≡ true;
  after : l.high < count_of l.step.block.items → is_below_rank g.K.TreeKey.shape l.rank (pair_of g.K.TreeKey.shape l.step.block.items l.high) ≡ false;
}

abbrev pub decreases-halve : goal.decreases-halve
decreases-halve g l = l.high - l.low
