use Rattle.std.proofs.Common.{◌≡◌, ◌∙◌, List, length, sym, subst}
use Rattle.obj_base.specs.declared.site.Site.{Site}
use Rattle.nx_ring.specs.Checkpoint.{Seen, site_of}
use Rattle.vol_view.specs.Volumes.{Loaded}
use Rattle.view_sweep.specs.declared.wanted.Head.{Head}
use Rattle.view_sweep.specs.Wanted.{AreToldHeads, AreBelowHeads}
use Rattle.view_sweep.specs.Named.{head_namings, AreOfImage, AreLive, AreReached}
use Rattle.reach_sweep.specs.Views.{swept_heads, supers_of}
use Rattle.reach_sweep.proofs.Swept.{views-are, below-heads, told-apart}
use Rattle.reach_sweep.proofs.sweeping.sweep_views.Goals as goal

pub reach_views-requires-clause-told : goal.reach_views-requires-clause-told
reach_views-requires-clause-told g c =
    let heads : c.deref.result.now ≡ swept_heads c.args.cp.now c.args.volumes.now = c.deref.ensures.value ∙ c.in_ok-heads.ensures.all in
    subst (λ (hs : List Head). AreToldHeads hs) (sym heads) (told-apart c.args.cp.now c.args.volumes.now c.requires.apart)

pub reach_views-requires-clause-below : goal.reach_views-requires-clause-below
reach_views-requires-clause-below g c =
    let heads : c.deref.result.now ≡ swept_heads c.args.cp.now c.args.volumes.now = c.deref.ensures.value ∙ c.in_ok-heads.ensures.all in
    subst (λ (hs : List Head). AreBelowHeads (length c.args.volumes.now) hs) (sym heads) (below-heads c.args.cp.now c.args.volumes.now)

pub returns-in-Ok-clause-clear : goal.returns-in-Ok-clause-clear
returns-in-Ok-clause-clear g c = λ image hs namer told p v.
    let seen : Seen = c.args.cp.now in
    let volumes : List Loaded = c.args.volumes.now in
    let heads : c.deref.result.now ≡ swept_heads seen volumes = c.deref.ensures.value ∙ c.in_ok-heads.ensures.all in
    let of : AreOfImage image seen c.site-site.result volumes c.deref.result.now =
    subst (λ (s : Site). AreOfImage image seen s volumes c.deref.result.now) (sym c.site-site.ensures)
    (subst (λ (xs : List Head). AreOfImage image seen (site_of seen) volumes xs) (sym heads) ((views-are image seen).of_image hs volumes namer v)) in
    subst (λ (xs : List Head). AreReached image seen (head_namings (supers_of namer volumes) xs) c.in-Ok.used.items) heads (c.in-Ok.ensures.clear image told seen of (supers_of namer volumes))

pub returns-clause-present : goal.returns-clause-present
returns-clause-present g c = λ image hs namer told p v live.
    let seen : Seen = c.args.cp.now in
    let volumes : List Loaded = c.args.volumes.now in
    let heads : c.deref.result.now ≡ swept_heads seen volumes = c.deref.ensures.value ∙ c.in_ok-heads.ensures.all in
    let of : AreOfImage image seen c.site-site.result volumes c.deref.result.now =
    subst (λ (s : Site). AreOfImage image seen s volumes c.deref.result.now) (sym c.site-site.ensures)
    (subst (λ (xs : List Head). AreOfImage image seen (site_of seen) volumes xs) (sym heads) ((views-are image seen).of_image hs volumes namer v)) in
    c.in-Err.ensures.present image told seen of (supers_of namer volumes) (subst (λ (xs : List Head). AreLive image seen (head_namings (supers_of namer volumes) xs)) (sym heads) live)
