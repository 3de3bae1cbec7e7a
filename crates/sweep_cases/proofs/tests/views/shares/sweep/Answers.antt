use Rattle.std.proofs.Common.{List, subst, sym}
use Rattle.view_sweep.specs.declared.wanted.Head.{Head}
use Rattle.view_sweep.specs.Wanted.{AreToldHeads, AreBelowHeads}
use Rattle.sweep_cases.proofs.tests.views.shares.sweep.Goals as goal

pub reach_views-told-requires-clause-told : goal.reach_views-told-requires-clause-told
reach_views-told-requires-clause-told c = subst (λ (heads : List Head). AreToldHeads heads) (sym c.deref.ensures.value) c.in_ok-heads.ensures.told

pub reach_views-told-requires-clause-below : goal.reach_views-told-requires-clause-below
reach_views-told-requires-clause-below c = subst (λ (heads : List Head). AreBelowHeads 2 heads) (sym c.deref.ensures.value) c.in_ok-heads.ensures.within
