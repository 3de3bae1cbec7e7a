use Rattle.std.proofs.Common.{take}
use Rattle.view_sweep.specs.Asked.{AreSought, AreOfSets}
use Rattle.view_sweep.proofs.joining.joined.Given as goal

abbrev pub invariant-loop-one : goal.invariant-loop-one
invariant-loop-one l = record {
  all : AreSought l.sets (take l.one-index l.asked) l.all.items;
  sets : AreOfSets l.views l.all.items;
}
