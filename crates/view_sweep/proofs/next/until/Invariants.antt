use Rattle.std.proofs.Common.{◌<◌, ◌≤◌, ◌-◌, length}
use Rattle.view_sweep.proofs.Stretches.{AreLike}
use Rattle.view_sweep.proofs.next.until.Given as goal

abbrev pub invariant-loop-high : goal.invariant-loop-high
invariant-loop-high l = record {
  more : l.low < l.high;
  inside : l.high ≤ length l.views;
  like : AreLike l.volumes l.site l.views l.wanted l.mapping l.low l.high;
}

abbrev pub decreases-loop-high : goal.decreases-loop-high
decreases-loop-high l = length l.views - l.high
