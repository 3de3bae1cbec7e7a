use Rattle.std.proofs.Common.{◌≤◌, ◌-◌, length}
use Rattle.view_sweep.specs.Found.{looked}
use Rattle.view_sweep.specs.Hits.{AreSplit}
use Rattle.view_sweep.specs.Sets.{AreSets, AreKept}
use Rattle.view_sweep.proofs.looking.add_hits.Given as goal

abbrev pub invariant-loop-low : goal.invariant-loop-low
invariant-loop-low l = record {
  inside : l.from ≤ length l.views;
  sets : AreSets l.views l.sets.items;
  kept : AreKept l.fn.sets.items l.sets.items;
  split : AreSplit (looked l.volumes l.site) l.site l.views l.sets.items l.sought.wanted l.sought.set.items l.from l.fn.out.items l.out.items;
}

abbrev pub decreases-loop-low : goal.decreases-loop-low
decreases-loop-low l = length l.views - l.from
