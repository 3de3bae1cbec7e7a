use Rattle.std.proofs.Common.{List, subst, sym}
use Rattle.view_sweep.specs.declared.wanted.Head.{Head}
use Rattle.view_sweep.specs.Wanted.{AreToldHeads, AreBelowHeads}
use Rattle.sweep_cases.proofs.tests.views.uses.reach.Goals as goal

pub reach_by_views-requires-clause-told : goal.reach_by_views-requires-clause-told
reach_by_views-requires-clause-told c = subst (λ (heads : List Head). AreToldHeads heads) (sym c.deref.ensures.value) c.in_ok-heads.ensures.told

pub reach_by_views-requires-clause-below : goal.reach_by_views-requires-clause-below
reach_by_views-requires-clause-below c = subst (λ (heads : List Head). AreBelowHeads 1 heads) (sym c.deref.ensures.value) c.in_ok-heads.ensures.below
