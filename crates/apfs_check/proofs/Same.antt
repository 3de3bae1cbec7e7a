-- What a check reads of volumes that can be loaded is what the definitions look at.
use Rattle.std.proofs.Common.{◌≡◌, ℕ, Bool, true, cond, List, [], ◌∷◌, ◌++◌, map, filter, inl, inr, refl, ap, sym, ◌∙◌}
use Rattle.std.specs.Prelude.{flat_map, is_some, None}
use Rattle.apfs_model.specs.Blocks.{in_container}
use Rattle.apfs_model.specs.Lists.{In}
use Rattle.bt_node.specs.Entries.{Pair, bytes_in}
use Rattle.obj_base.specs.declared.site.Site.{Site}
use Rattle.nx_ring.specs.Checkpoint.{Seen, site_of}
use Rattle.vol_view.specs.Heads.{is_super}
use Rattle.vol_view.specs.SnapRecords.{snapshot_pairs, snap_super_of, is_snapshot_long}
use Rattle.vol_view.specs.Volumes.{metadata_of, snapshot_in, has_super, snapshots_in, sound_snapshots, loaded_of}
use Rattle.vol_view.specs.Views.{live_of, past_of, views_of, rooted_views}
use Rattle.vol_view.specs.LoadStops.{IsRightSnapshot, IsLoadable}
use Rattle.vol_view.specs.declared.head.VolHead.{VolHead}
use Rattle.ext_ref.specs.Ranges.{ranges_of}
use Rattle.apfs_model.proofs.BoolTests.{both-true}
use Rattle.apfs_check.specs.Volumes.{volume_of, record_extents_root, past_extents_roots, volume_ranges}
use Rattle.apfs_check.specs.Steps.{snapshot_root}
use Rattle.apfs_check.proofs.Loaded.{readable-long}

-- a list of which all pass
filter-all : {X : Type 0} (p : X → Bool) (xs : List X) → ((x : X) → In x xs → p x ≡ true) → filter p xs ≡ xs
filter-all p [] h = refl
filter-all p (x ∷ xs) h = ap (λ b. cond b (x ∷ filter p xs) (filter p xs)) (h x (inl refl)) ∙ ap (λ ys. x ∷ ys) (filter-all p xs (λ y k. h y (inr k)))

pub map-map : {X Y Z : Type 0} (f : Y → Z) (g : X → Y) (h : X → Z) (xs : List X) → ((x : X) → f (g x) ≡ h x) → map f (map g xs) ≡ map h xs
map-map f g h [] e = refl
map-map f g h (x ∷ xs) e = ap (λ z. z ∷ map f (map g xs)) (e x) ∙ ap (λ zs. h x ∷ zs) (map-map f g h xs e)

right-super : (image : List ℕ) (site : Site) (pair : Pair) → is_snapshot_long pair ≡ true → IsRightSnapshot image site pair → has_super image site pair ≡ true
unfolding has_super
right-super image site pair long r =
    let oid : ℕ = snap_super_of (bytes_in pair.value) in
    both-true (is_snapshot_long pair) _ long (both-true (is_some (in_container site.blocks oid)) (is_super image site None oid) (ap is_some r.inside) r.super)

-- all snapshots of a volume that can be loaded have sound superblocks
snapshots-same : (image : List ℕ) (site : Site) (head : VolHead) → IsLoadable image site head → sound_snapshots image site head ≡ snapshots_in image site head
snapshots-same image site head r =
    let pairs : List Pair = snapshot_pairs (metadata_of image site head) in
    ap (map (snapshot_in image site)) (filter-all (has_super image site) pairs (λ pair h. right-super image site pair (readable-long (metadata_of image site head) r.agreed.readable pair h) (r.snapshots pair h)))

-- so all its views have a root
pub views-same : (image : List ℕ) (seen : Seen) (head : VolHead) → IsLoadable image (site_of seen) head → rooted_views image seen head ≡ views_of (volume_of image seen head) seen
unfolding loaded_of
views-same image seen head r = ap (λ snaps. live_of (volume_of image seen head) seen ∷ map (past_of (volume_of image seen head)) snaps) (snapshots-same image (site_of seen) head r)

-- the root of a snapshot's extent reference tree is that of its record
root-same : (image : List ℕ) (site : Site) (pair : Pair) → (snapshot_in image site pair).extents_root ≡ record_extents_root pair
unfolding snapshot_in
root-same image site pair = refl

pub roots-same : (image : List ℕ) (site : Site) (head : VolHead) → IsLoadable image site head → past_extents_roots image site head ≡ map snapshot_root (snapshots_in image site head)
roots-same image site head r =
    let pairs : List Pair = snapshot_pairs (metadata_of image site head) in
    ap (map record_extents_root) (filter-all is_snapshot_long pairs (λ pair h. readable-long (metadata_of image site head) r.agreed.readable pair h))
    ∙ sym (map-map snapshot_root (snapshot_in image site) record_extents_root pairs (root-same image site))

-- the new ranges of a volume that can be loaded are those of its tree and of its snapshots' trees, joined
pub ranges-same : (image : List ℕ) (seen : Seen) (head : VolHead) → IsLoadable image (site_of seen) head →
    volume_ranges image (site_of seen) head ≡ ranges_of image (site_of seen) (volume_of image seen head).extents_root ++ flat_map (ranges_of image (site_of seen)) (map snapshot_root (volume_of image seen head).snaps)
unfolding loaded_of volume_ranges
ranges-same image seen head r =
    ap (λ roots. ranges_of image (site_of seen) (volume_of image seen head).extents_root ++ flat_map (ranges_of image (site_of seen)) roots) (roots-same image (site_of seen) head r)

-- the roots of the snapshots' trees are those of the volume that was loaded
pub past-roots : (image : List ℕ) (seen : Seen) (head : VolHead) → IsLoadable image (site_of seen) head → past_extents_roots image (site_of seen) head ≡ map snapshot_root (volume_of image seen head).snaps
unfolding loaded_of
past-roots image seen head r = roots-same image (site_of seen) head r
