use Rattle.std.proofs.Common.{length, take}
use Rattle.view_sweep.specs.Wanted.{heads_want}
use Rattle.view_sweep.specs.Sets.{all_asked, AreSets, AreNumbered, HaveSame}
use Rattle.view_sweep.proofs.sweeping.wants.Given as goal

abbrev pub invariant-loop-at : goal.invariant-loop-at
invariant-loop-at l = record {
  sets : AreSets l.views l.sets.items;
  numbers : AreNumbered (length l.sets.items) l.wants.items;
  same : HaveSame (all_asked l.views l.sets.items l.wants.items) (heads_want (take l.at l.heads));
}
