-- What a scan of an extent reference tree tells is present in the container, where the root is that of a volume or of a snapshot.
use Rattle.std.proofs.Common.{◌≡◌, ℕ, true, false, ◌==◌, List, ◌++◌, filter, Ok, inl, inr, refl, sym, subst}
use Rattle.apfs_model.specs.Blocks.{in_container}
use Rattle.apfs_model.specs.Lists.{In}
use Rattle.obj_base.specs.declared.stop.Feature.{Feature}
use Rattle.obj_base.specs.declared.stop.Stop.TheVariants as stops
use Rattle.obj_base.specs.declared.stop.Within.TheVariants.{Physical}
use Rattle.bt_node.specs.Entries.{Pair}
use Rattle.bt_keys.specs.Shapes.{ext_shape}
use Rattle.nx_ring.specs.Checkpoint.{Seen, site_of}
use Rattle.nx_ring.specs.Newest.{newest_of}
use Rattle.vol_view.specs.Fields as field
use Rattle.vol_view.specs.SnapRecords.{snapshot_pairs, is_snapshot_long}
use Rattle.vol_view.specs.Volumes.{super_of, metadata_of, loaded_of}
use Rattle.vol_view.specs.declared.head.VolHead.{VolHead}
use Rattle.ext_ref.specs.Stops as extents
use Rattle.ext_ref.specs.Scanned as scanned
use Rattle.ext_ref.specs.declared.stop.ExtStop.{ExtStop}
use Rattle.ext_ref.specs.declared.stop.ExtStop.TheVariants as stopped
use Rattle.reach_rules.specs.declared.naming.LookUp.TheVariants.{ByBlock}
use Rattle.reach_rules.specs.declared.naming.Namer.{Namer}
use Rattle.reach_rules.specs.declared.naming.Namer.TheVariants.{Whole, Kept}
use Rattle.reach_rules.specs.declared.naming.TreeKind.TheVariants.{ExtentRefs, SnapMetadata}
use Rattle.reach_rules.specs.declared.naming.Expected.TheVariants.{TreeRoot}
use Rattle.reach_rules.specs.declared.naming.Naming.{Naming}
use Rattle.reach_rules.specs.Naming.{naming}
use Rattle.reach_rules.specs.Next.{unless_zero, live_view, past_view, view_namings, volume_namings, snapshots_namings, records_of_snapshots}
use Rattle.apfs_model.proofs.Searches.{in-left, in-right, from-map, from-filter, filter-test}
use Rattle.view_rules.specs.declared.profile.Profile.{Profile}
use Rattle.apfs_check.specs.Volumes.{has_sound_super, sound_heads, record_extents_root, past_extents_roots}
use Rattle.apfs_check.specs.Present.{IsPresent, IsFeature}
use Rattle.apfs_check.specs.Raised.{of_extents}
use Rattle.apfs_check.specs.Steps.{IsExtentsRoot}
use Rattle.reach_rules.proofs.Nexts.{in-unless}
use Rattle.reach_rules.proofs.Walks.{IsRootNaming, gap-told}
use Rattle.reach_rules.proofs.Looks.{extents-walk}
use Rattle.apfs_check.proofs.Named.{IsHeadNaming, head-named, volume-names, record-names}
use Rattle.apfs_check.proofs.Loaded.{from-sound}
use Rattle.apfs_check.proofs.There.{walk-there, feature-there}
use Rattle.reach_rules.proofs.TreesLifted.{extents-present}
use Rattle.apfs_check.proofs.VolumesThere.{sound-head}

-- that of a volume is named by its superblock
live-root : (image : List ℕ) (seen : Seen) (head : VolHead) (n : IsHeadNaming image seen head) → has_sound_super image (site_of seen) head ≡ true → (root : ℕ) → root ≡ (loaded_of image (site_of seen) head).extents_root → (root == 0) ≡ false → IsRootNaming image seen ExtentRefs ByBlock root
unfolding loaded_of
live-root image seen head n sound root same some =
    let bytes : List ℕ = super_of image (site_of seen) head in
    let me : Namer = Whole n.object.object in
    let oid : ℕ = field.extents_root_of bytes in
    let m : Naming = naming me 144 (TreeRoot ExtentRefs) ByBlock oid in
    let views : List Naming = view_namings me (live_view seen head.slot bytes) bytes in
    let own : List Naming = unless_zero me 144 (TreeRoot ExtentRefs) ByBlock oid in
    let rest : List Naming = unless_zero me 152 (TreeRoot SnapMetadata) ByBlock (field.snaps_root_of bytes) ++ snapshots_namings head.slot bytes 0 (records_of_snapshots image (site_of seen) bytes) in
    let listed : In m (volume_namings image seen head.slot me bytes) = inr (in-right m views (own ++ rest) (in-left m own rest (in-unless me 144 (TreeRoot ExtentRefs) ByBlock oid (subst (λ r. (r == 0) ≡ false) same some)))) in
    record { naming = m; live = volume-names image seen head n sound m listed; expected_is = refl; how_is = refl; oid_is = sym same }

-- that of a snapshot is named by the snapshot's record
past-root : (image : List ℕ) (seen : Seen) (head : VolHead) (n : IsHeadNaming image seen head) → has_sound_super image (site_of seen) head ≡ true → (root : ℕ) → In root (past_extents_roots image (site_of seen) head) → (root == 0) ≡ false → IsRootNaming image seen ExtentRefs ByBlock root
past-root image seen head n sound root h some =
    let pairs : List Pair = snapshot_pairs (metadata_of image (site_of seen) head) in
    let t = from-map record_extents_root (filter is_snapshot_long pairs) root h in
    let pair : Pair = t.0 in
    let r = record-names image seen head n sound pair (from-filter is_snapshot_long pair pairs t.1.0) (filter-test is_snapshot_long pair pairs t.1.0) in
    let m : Naming = naming (Kept (past_view head.slot (super_of image (site_of seen) head) r.0 pair)) 0 (TreeRoot ExtentRefs) ByBlock (record_extents_root pair) in
    record {
      naming = m;
      live = r.1 m (inr (in-unless _ 0 (TreeRoot ExtentRefs) ByBlock (record_extents_root pair) (subst (λ x. (x == 0) ≡ false) t.1.1 some)));
      expected_is = refl;
      how_is = refl;
      oid_is = sym t.1.1;
    }

extents-root : (image : List ℕ) (seen : Seen) (head : VolHead) → In head (sound_heads image seen) → (root : ℕ) → IsExtentsRoot image seen head root → (root == 0) ≡ false → IsRootNaming image seen ExtentRefs ByBlock root
extents-root image seen head one root (inl e) some = live-root image seen head (head-named image seen head (from-sound image seen head one)) (sound-head image seen head one) root e some
extents-root image seen head one root (inr h) some = past-root image seen head (head-named image seen head (from-sound image seen head one)) (sound-head image seen head one) root h some

-- what a scan tells is present
pub extents-there : (profile : Profile) (image : List ℕ) (seen : Seen) → newest_of image ≡ Ok seen → (head : VolHead) → In head (sound_heads image seen) → (root : ℕ) → IsExtentsRoot image seen head root → (stop : ExtStop) → extents.IsExtStop image (site_of seen) root stop → IsPresent profile image (of_extents seen.line.xid root stop)
extents-there profile image seen new head one root at (stopped.Walk why) (some, there) =
    walk-there profile image seen new Physical seen.line.xid root why (extents-present image seen root (extents-root image seen head one root at some) (stopped.Walk why) (some, there))
extents-there profile image seen new head one root at (stopped.Value item) (some, there) =
    record { seen = seen; newest = new; fact = extents-present image seen root (extents-root image seen head one root at some) (stopped.Value item) (some, there) }

pub extents-feature : (image : List ℕ) (seen : Seen) → newest_of image ≡ Ok seen → (head : VolHead) → In head (sound_heads image seen) → (root : ℕ) → IsExtentsRoot image seen head root → (feature : Feature) (block : ℕ) → scanned.IsExtFeature image (site_of seen) root feature block → IsFeature image feature block
extents-feature image seen new head one root at feature block (some, gap) =
    feature-there image seen new feature block (gap-told image seen ExtentRefs ByBlock ext_shape (in_container (site_of seen).blocks) (extents-walk image seen) root (extents-root image seen head one root at some) (stops.Unsupported feature block) gap)
