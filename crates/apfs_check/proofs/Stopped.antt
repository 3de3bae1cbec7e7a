-- What the parts of a check tell where they stop is present in the container.
use Rattle.std.proofs.Common.{◌≡◌, ℕ, List, Ok, inl, inr, sym, ap, subst}
use Rattle.apfs_model.specs.Lists.{In}
use Rattle.obj_base.specs.Stops.{Tells, raised}
use Rattle.obj_base.specs.declared.stop.Feature.{Feature}
use Rattle.obj_base.specs.declared.stop.Stop.{Stop}
use Rattle.obj_base.specs.declared.stop.Stop.TheVariants.{Found, Unsupported}
use Rattle.obj_base.specs.declared.site.Site.{Site}
use Rattle.nx_ring.specs.Ring.{IsRingFault, IsRingFeature}
use Rattle.nx_ring.specs.Checkpoint.{Seen, site_of}
use Rattle.nx_ring.specs.Newest.{newest_of}
use Rattle.nx_ring.specs.declared.fault.RingFault.{RingFault}
use Rattle.vol_view.specs.Stops.{IsHeadsStop, IsHeadsFeature, AreHeads}
use Rattle.vol_view.specs.LoadStops.{IsLoadStop, IsLoadFeature}
use Rattle.vol_view.specs.Volumes.{Loaded}
use Rattle.vol_view.specs.Views.{views_of, rooted_views, IsViewFeature}
use Rattle.vol_view.specs.declared.head.VolHead.{VolHead}
use Rattle.vol_view.specs.declared.stop.VolStop.{VolStop}
use Rattle.vol_view.specs.declared.volume.Snapshot.{Snapshot}
use Rattle.vol_view.specs.declared.volume.View.{View}
use Rattle.ext_ref.specs.Stops.{IsExtStop}
use Rattle.ext_ref.specs.Scanned.{IsExtFeature}
use Rattle.ext_ref.specs.declared.range.NewRange.{NewRange}
use Rattle.ext_ref.specs.declared.stop.ExtStop.{ExtStop}
use Rattle.reach_rules.specs.Faults as reach
use Rattle.reach_rules.specs.Features.{HasFeature}
use Rattle.reach_rules.specs.declared.fault.ReachFault.{ReachFault}
use Rattle.reach_sweep.specs.Views.{head_of}
use Rattle.view_rules.specs.Rules.{IsTreeFault}
use Rattle.view_rules.specs.declared.fault.TreeFault.{TreeFault}
use Rattle.view_rules.specs.declared.profile.Profile.{Profile}
use Rattle.apfs_model.proofs.Searches.{in-map}
use Rattle.apfs_check.specs.Volumes.{sound_heads, volume_of, volume_ranges}
use Rattle.apfs_check.specs.Present.{IsPresent, IsFeature}
use Rattle.apfs_check.specs.Raised.{of_ring, of_volume, of_extents, of_sweep, of_view}
use Rattle.apfs_check.specs.Steps.{IsThere, AreReady, IsReady, IsExtentsRoot, snapshot_root}
use Rattle.apfs_check.specs.declared.fault.Fault.{Fault}
use Rattle.apfs_check.proofs.Named.{view-named}
use Rattle.apfs_check.proofs.Loaded.{from-sound, right-sound}
use Rattle.apfs_check.proofs.Same.{views-same, past-roots}
use Rattle.apfs_check.proofs.There.{ring-there, ring-feature, sweep-there, feature-there, view-there, node-feature}
use Rattle.apfs_check.proofs.VolumesThere.{heads-there, heads-feature, load-there, load-feature, sound-head}
use Rattle.apfs_check.proofs.ExtentsThere.{extents-there, extents-feature}

-- what a stop tells is there where each fault and each feature of its part is
tells-there : {F : Type 0} (profile : Profile) (image : List ℕ) (say : F → Fault) (fault : F → Type 0) (feature : Feature → ℕ → Type 0) → ((f : F) → fault f → IsPresent profile image (say f)) → ((name : Feature) (block : ℕ) → feature name block → IsFeature image name block) →
    (stop : Stop F) → Tells fault feature stop → IsThere profile image (raised say stop)
tells-there profile image say fault feature there named (Found f) p = there f p
tells-there profile image say fault feature there named (Unsupported name block) p = named name block p
tells-there profile image say fault feature there named stop p = tt

pub ring-stops : (profile : Profile) (image : List ℕ) (stop : Stop RingFault) → Tells (IsRingFault image) (IsRingFeature image) stop → IsThere profile image (raised of_ring stop)
ring-stops profile image stop p = tells-there profile image of_ring (IsRingFault image) (IsRingFeature image) (ring-there profile image) (ring-feature image) stop p

pub heads-stops : (profile : Profile) (image : List ℕ) (seen : Seen) → newest_of image ≡ Ok seen → (stop : Stop VolStop) → Tells (IsHeadsStop image seen) (IsHeadsFeature image seen) stop → IsThere profile image (raised (of_volume seen.line.xid) stop)
heads-stops profile image seen e stop p = tells-there profile image (of_volume seen.line.xid) (IsHeadsStop image seen) (IsHeadsFeature image seen) (heads-there profile image seen e) (heads-feature image seen e) stop p

pub load-stops : (profile : Profile) (image : List ℕ) (seen : Seen) → newest_of image ≡ Ok seen → (heads : List VolHead) → AreHeads image seen heads → (head : VolHead) → In head heads → (stop : Stop VolStop) → Tells (IsLoadStop image (site_of seen) head) (IsLoadFeature image (site_of seen) head) stop → IsThere profile image (raised (of_volume seen.line.xid) stop)
load-stops profile image seen e heads are head one stop p =
    let sound : In head (sound_heads image seen) = right-sound image seen are.right head (subst (In head) are.same one) in
    tells-there profile image (of_volume seen.line.xid) (IsLoadStop image (site_of seen) head) (IsLoadFeature image (site_of seen) head) (load-there profile image seen e head sound) (load-feature image seen e head sound) stop p

pub sweep-stops : (profile : Profile) (image : List ℕ) (seen : Seen) → newest_of image ≡ Ok seen → (stop : Stop ReachFault) → Tells (reach.Present image seen) (HasFeature image seen) stop → IsThere profile image (raised (of_sweep seen.line.xid) stop)
sweep-stops profile image seen e stop p = tells-there profile image (of_sweep seen.line.xid) (reach.Present image seen) (HasFeature image seen) (sweep-there profile image seen e) (feature-there image seen e) stop p

pub extents-stops : (profile : Profile) (image : List ℕ) (seen : Seen) → newest_of image ≡ Ok seen → (head : VolHead) → In head (sound_heads image seen) → (root : ℕ) → IsExtentsRoot image seen head root → (stop : Stop ExtStop) → Tells (IsExtStop image (site_of seen) root) (IsExtFeature image (site_of seen) root) stop →
    IsThere profile image (raised (of_extents seen.line.xid root) stop)
extents-stops profile image seen e head sound root at stop p =
    tells-there profile image (of_extents seen.line.xid root) (IsExtStop image (site_of seen) root) (IsExtFeature image (site_of seen) root) (extents-there profile image seen e head sound root at) (extents-feature image seen e head sound root at) stop p

-- ---- of a volume that was loaded
-- it is one of all that were
pub one-ready : (image : List ℕ) (seen : Seen) (volumes : List Loaded) → AreReady image seen volumes → (volume : Loaded) → In volume volumes → IsReady image seen volume
one-ready image seen volumes are volume one = record {
  newest = are.newest;
  sound = right-sound image seen are.heads.right volume.head (subst (In volume.head) (sym are.loaded.heads_are) (in-map head_of volumes volume one));
  loaded = are.loaded.loaded volume one;
}

-- the roots of its extent reference trees
pub live-root : (image : List ℕ) (seen : Seen) (volume : Loaded) → IsReady image seen volume → IsExtentsRoot image seen volume.head volume.extents_root
live-root image seen volume r = inl (ap (λ (v : Loaded). v.extents_root) r.loaded.same)

pub past-root : (image : List ℕ) (seen : Seen) (volume : Loaded) → IsReady image seen volume → (snapshot : Snapshot) → In snapshot volume.snaps → IsExtentsRoot image seen volume.head snapshot.extents_root
past-root image seen volume r snapshot one =
    let listed : In snapshot (volume_of image seen volume.head).snaps = subst (λ (v : Loaded). In snapshot v.snaps) r.loaded.same one in
    inr (subst (In snapshot.extents_root) (sym (past-roots image seen volume.head r.loaded.right)) (in-map snapshot_root (volume_of image seen volume.head).snaps snapshot listed))

-- its views
view-stops-of : (profile : Profile) (image : List ℕ) (seen : Seen) (head : VolHead) → newest_of image ≡ Ok seen → In head (sound_heads image seen) → (view : View) → In view (rooted_views image seen head) → (stop : Stop TreeFault) →
    Tells (IsTreeFault profile image (site_of seen) (volume_of image seen head) view (volume_ranges image (site_of seen) head)) (IsViewFeature image (site_of seen) (volume_of image seen head) view) stop → IsThere profile image (raised of_view stop)
view-stops-of profile image seen head e sound view rooted stop p =
    let named = view-named image seen head (from-sound image seen head sound) (sound-head image seen head sound) view rooted in
    tells-there profile image of_view (IsTreeFault profile image (site_of seen) (volume_of image seen head) view (volume_ranges image (site_of seen) head)) (IsViewFeature image (site_of seen) (volume_of image seen head) view)
    (view-there profile image seen e head sound view rooted named) (node-feature image seen e head view named) stop p

pub view-stops : (profile : Profile) (image : List ℕ) (seen : Seen) (volume : Loaded) → IsReady image seen volume → (view : View) → In view (views_of volume seen) → (stop : Stop TreeFault) →
    Tells (IsTreeFault profile image (site_of seen) volume view (volume_ranges image (site_of seen) volume.head)) (IsViewFeature image (site_of seen) volume view) stop → IsThere profile image (raised of_view stop)
view-stops profile image seen volume r view one stop p =
    let head = volume.head in
    let rooted : In view (rooted_views image seen head) = subst (In view) (sym (views-same image seen head r.loaded.right)) (subst (λ (v : Loaded). In view (views_of v seen)) r.loaded.same one) in
    view-stops-of profile image seen head r.newest r.sound view rooted stop
    (subst (λ (v : Loaded). Tells (IsTreeFault profile image (site_of seen) v view (volume_ranges image (site_of seen) head)) (IsViewFeature image (site_of seen) v view) stop) r.loaded.same p)

-- the same of a site and of ranges that are those of the volume
pub view-stops-at : (profile : Profile) (image : List ℕ) (seen : Seen) (site : Site) (volume : Loaded) (ranges : List NewRange) → IsReady image seen volume → site ≡ site_of seen → ranges ≡ volume_ranges image (site_of seen) volume.head → (view : View) → In view (views_of volume seen) → (stop : Stop TreeFault) →
    Tells (IsTreeFault profile image site volume view ranges) (IsViewFeature image site volume view) stop → IsThere profile image (raised of_view stop)
view-stops-at profile image seen site volume ranges r here same view one stop p =
    view-stops profile image seen volume r view one stop
    (subst (λ (s : Site). Tells (IsTreeFault profile image s volume view (volume_ranges image (site_of seen) volume.head)) (IsViewFeature image s volume view) stop) here
    (subst (λ rs. Tells (IsTreeFault profile image site volume view rs) (IsViewFeature image site volume view) stop) same p))
