use Rattle.std.proofs.Common.{take}
use Rattle.view_sweep.specs.Found.{looked}
use Rattle.view_sweep.specs.Hits.{AreHitsOf}
use Rattle.view_sweep.specs.Sets.{AreSets, AreKept}
use Rattle.view_sweep.proofs.looking.hits.Given as goal

abbrev pub invariant-loop-sought : goal.invariant-loop-sought
invariant-loop-sought l = record {
  hits : AreHitsOf (looked l.volumes l.site) l.site l.views l.sets.items (take l.sought-index l.all) l.hits.items;
  sets : AreSets l.views l.sets.items;
  kept : AreKept l.fn.sets.items l.sets.items;
}
