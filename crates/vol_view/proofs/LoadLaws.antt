-- Where a volume can be loaded, nothing that `load` could name of it is there.
use Rattle.std.specs.Prelude.{◌≡◌, ◌⊎◌, ℕ, true, false, ◌==◌, List, [], None, Some, is_ok, is_some}
use Rattle.std.proofs.Common.{ap, sym, subst, inl, inr}
use Rattle.apfs_model.specs.Blocks.{in_container}
use Rattle.apfs_model.specs.Lists.{In}
use Rattle.apfs_model.proofs.BoolTests.{clash, left-true, right-true, other-true}
use Rattle.obj_base.specs.declared.stop.Feature.{Feature}
use Rattle.obj_base.specs.declared.stop.Stop.TheVariants.{Found, Unsupported}
use Rattle.obj_base.specs.declared.stop.Within.TheVariants.{Physical, Ephemeral, Container, Volume}
use Rattle.bt_node.specs.Entries.{bytes_in}
use Rattle.obj_base.specs.declared.site.Site.{Site}
use Rattle.bt_keys.specs.Shapes.{snap_shape}
use Rattle.bt_cursor.specs.WholeTree.{IsWhole}
use Rattle.bt_cursor.proofs.Places.{whole-world, tree-levelled}
use Rattle.bt_cursor.proofs.Wholes.{whole_means}
use Rattle.omap_map.specs.Features.{snapshot_features}
use Rattle.omap_map.specs.Maps.{map_snapshots}
use Rattle.omap_map.proofs.Loads.{whole-free, whole-object, object-inside}
use Rattle.vol_view.specs.Heads.{super_in, super_test, has_magic, is_super}
use Rattle.vol_view.specs.SnapRecords.{metadata_tree, snap_super_of}
use Rattle.vol_view.specs.Volumes.{map_block_of}
use Rattle.vol_view.specs.Features.{snapshot_super_features}
use Rattle.vol_view.specs.LoadStops.{metadata_root, NamesSuper, IsLoadStop, IsLoadFeature, IsSnapshotSuperFeature, has_whole_metadata, IsLoadable}
use Rattle.vol_view.specs.declared.head.VolHead.{VolHead}
use Rattle.vol_view.specs.declared.stop.VolStop.{VolStop}
use Rattle.vol_view.specs.declared.stop.VolStop.TheVariants.{Head, Magic, Unnamed, Omap, Walk, SnapRecord, SnapCount, SnapName, OmapSnaps}

none-in : (x : Feature) (xs : List Feature) → xs ≡ [] → In x xs → ⊥
none-in x xs e h = subst (λ ys. In x ys) e h

super-ok : (image : List ℕ) (site : Site) (block : ℕ) → is_super image site None block ≡ true → is_ok (super_test image site None block) ≡ true
unfolding is_super
super-ok image site block e = left-true _ _ e

super-magic : (image : List ℕ) (site : Site) (block : ℕ) → is_super image site None block ≡ true → has_magic (super_in image site block) ≡ true
unfolding is_super
super-magic image site block e = right-true _ _ e

metadata-whole : (image : List ℕ) (site : Site) (head : VolHead) → (metadata_root image site head == 0) ≡ false → has_whole_metadata image site head ≡ true → IsWhole (metadata_tree image site) (metadata_root image site head)
unfolding has_whole_metadata
metadata-whole image site head some e = whole_means (metadata_tree image site) (metadata_root image site head) (other-true _ _ some e)

-- what is right of a snapshot is right of the block that its record gives
named-right : (image : List ℕ) (site : Site) (head : VolHead) (block : ℕ) → IsLoadable image site head → NamesSuper image site head block → (in_container site.blocks block ≡ Some block) × (is_super image site None block ≡ true)
named-right image site head block right named =
    let snapshot = right.snapshots named.pair named.one.one in
    subst (λ b. (in_container site.blocks b ≡ Some b) × (is_super image site None b ≡ true)) named.same (snapshot.inside, snapshot.super)

-- where a volume can be loaded, no fault is there
pub load-refutes : (image : List ℕ) (site : Site) (head : VolHead) (stop : VolStop) → IsLoadable image site head → IsLoadStop image site head stop → ⊥
load-refutes image site head (Head block why) right (super, failing) =
    clash (is_ok (super_test image site None block)) (super-ok image site block (named-right image site head block right super.named).1) (ap is_ok failing)
load-refutes image site head (Magic block) right (super, sound, lacking) = clash _ (super-magic image site block (named-right image site head block right super.named).1) lacking
load-refutes image site head (Unnamed Physical oid) right (inl map, none) =
    clash (is_some (in_container site.blocks oid)) (subst (λ b. is_some (in_container site.blocks b) ≡ true) (sym map) (object-inside image site (map_block_of image site head) (whole-object image site (map_block_of image site head) right.map))) (ap is_some none)
load-refutes image site head (Unnamed Physical oid) right (inr super, none) =
    clash (is_some (in_container site.blocks oid)) (ap is_some (named-right image site head oid right super).0) (ap is_some none)
load-refutes image site head (Unnamed Container oid) right h = h
load-refutes image site head (Unnamed Ephemeral oid) right h = h
load-refutes image site head (Unnamed (Volume slot) oid) right h = h
load-refutes image site head (Omap fault) right h = whole-free image site (map_block_of image site head) (Found fault) right.map right.settled h
load-refutes image site head (Walk root why) right (same, some, fault) =
    let some2 : (metadata_root image site head == 0) ≡ false = subst (λ r. (r == 0) ≡ false) same some in
    whole-world (metadata_tree image site) root (Found why) (tree-levelled snap_shape site (in_container site.blocks) image) (subst (λ r. IsWhole (metadata_tree image site) r) (sym same) (metadata-whole image site head some2 right.metadata)) fault
load-refutes image site head (SnapRecord slot) right (same, wrong) = clash _ right.agreed.readable wrong
load-refutes image site head (SnapCount slot) right (same, wrong) = clash _ right.agreed.counted wrong
load-refutes image site head (SnapName slot) right (same, wrong) = clash _ right.agreed.named wrong
load-refutes image site head (OmapSnaps slot) right (same, sound, wrong) = clash _ right.agreed.mapped wrong

snapshot-plain : (image : List ℕ) (site : Site) (feature : Feature) (block : ℕ) → is_super image site None block ≡ true → snapshot_super_features (super_in image site block) ≡ [] → IsSnapshotSuperFeature image site feature block → ⊥
snapshot-plain image site feature block super plain (inside, inl failing) = clash (is_ok (super_test image site None block)) (super-ok image site block super) (ap is_ok failing)
snapshot-plain image site feature block super plain (inside, inr (sound, has)) = none-in feature _ plain has

snapshot-feature : (image : List ℕ) (site : Site) (feature : Feature) (block at : ℕ) (marks : List Feature) → at ≡ block → is_super image site None at ≡ true → snapshot_super_features (super_in image site at) ≡ [] → marks ≡ [] → (In feature marks ⊎ IsSnapshotSuperFeature image site feature block) → ⊥
snapshot-feature image site feature block at marks same super plain unmarked (inl has) = none-in feature marks unmarked has
snapshot-feature image site feature block at marks same super plain unmarked (inr has) =
    snapshot-plain image site feature block (subst (λ b. is_super image site None b ≡ true) same super) (subst (λ b. snapshot_super_features (super_in image site b) ≡ []) same plain) has

-- where a volume can be loaded, no feature is there
pub load-plain : (image : List ℕ) (site : Site) (head : VolHead) (feature : Feature) (block : ℕ) → IsLoadable image site head → IsLoadFeature image site head feature block → ⊥
load-plain image site head feature block right (inl (same, has)) = none-in feature _ right.plain has
load-plain image site head feature block right (inr (inl h)) = whole-free image site (map_block_of image site head) (Unsupported feature block) right.map right.settled h
load-plain image site head feature block right (inr (inr (inl (same, sound, has)))) =
    none-in feature _ right.unmarked (subst (λ b. In feature (snapshot_features (map_snapshots image site b))) same has)
load-plain image site head feature block right (inr (inr (inr (inl (some, has))))) =
    whole-world (metadata_tree image site) (metadata_root image site head) (Unsupported feature block) (tree-levelled snap_shape site (in_container site.blocks) image) (metadata-whole image site head some right.metadata) has
load-plain image site head feature block right (inr (inr (inr (inr snapshot)))) =
    let fine = right.snapshots snapshot.pair snapshot.one.one in
    snapshot-feature image site feature block (snap_super_of (bytes_in snapshot.pair.value)) _ snapshot.same fine.super fine.plain fine.unmarked snapshot.has
