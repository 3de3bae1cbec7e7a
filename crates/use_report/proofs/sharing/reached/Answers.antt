use Rattle.std.proofs.Common.{ℕ, List, sym, subst}
use Rattle.vol_view.specs.Volumes.{Loaded}
use Rattle.view_sweep.specs.declared.wanted.Head.{Head}
use Rattle.view_sweep.specs.Wanted.{AreToldHeads, AreBelowHeads}
use Rattle.view_sweep.specs.Named.{AreOfImage}
use Rattle.use_report.specs.Heads.{AreHeadsOf}
use Rattle.use_report.proofs.Headed.{told-heads, below-heads, of-image, in-order}
use Rattle.use_report.proofs.sharing.reached.Goals as goal

pub reach_by_views-requires-clause-told : goal.reach_by_views-requires-clause-told
reach_by_views-requires-clause-told g c =
    subst (λ (heads : List Head). AreToldHeads heads) (sym c.deref.ensures.value) (told-heads c.args.volume.now c.args.views.now c.in_ok-heads.heads.items c.in_ok-heads.ensures.all c.requires.placed)

pub reach_by_views-requires-clause-below : goal.reach_by_views-requires-clause-below
reach_by_views-requires-clause-below g c =
    subst (λ (n : ℕ). AreBelowHeads n c.deref.result.now) (sym c.from_ref.ensures.len)
    (subst (λ (heads : List Head). AreBelowHeads 1 heads) (sym c.deref.ensures.value) (below-heads c.args.volume.now c.args.views.now c.in_ok-heads.heads.items c.in_ok-heads.ensures.all))

pub returns-in-Ok-clause-reached : goal.returns-in-Ok-clause-reached
returns-in-Ok-clause-reached g c image told seen s given =
    let volume = c.args.volume.now in
    let views = c.args.views.now in
    let heads = c.deref.result.now in
    let of_views : AreHeadsOf volume views heads = subst (λ (hs : List Head). AreHeadsOf volume views hs) (sym c.deref.ensures.value) c.in_ok-heads.ensures.all in
    let of : AreOfImage image seen c.args.site.now c.from_ref.result.now heads =
    subst (λ (vs : List Loaded). AreOfImage image seen c.args.site.now vs heads) (sym c.from_ref.ensures.value) (of-image image seen volume given c.args.site.now views heads s of_views) in
    record { heads = heads; of_views = of_views; reached = λ supers. c.in-Ok.ensures.clear image told seen of supers; shared = λ supers. c.in-Ok.ensures.views image told seen of supers }

pub returns-in-Ok-clause-order : goal.returns-in-Ok-clause-order
returns-in-Ok-clause-order g c =
    let volume = c.args.volume.now in
    let views = c.args.views.now in
    let heads = c.deref.result.now in
    in-order volume views heads (subst (λ (hs : List Head). AreHeadsOf volume views hs) (sym c.deref.ensures.value) c.in_ok-heads.ensures.all) c.args.site.now.blocks c.in-Ok.reach.sets.items c.in-Ok.reach.shares.items c.in-Ok.ensures.inside
