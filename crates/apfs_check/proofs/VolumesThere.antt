-- What `heads` and `load` tell of the volumes is present in the container.
use Rattle.std.proofs.Common.{◌≡◌, ℕ, true, false, ◌==◌, ◌<◌, List, [], ◌++◌, map, Option, Some, None, Ok, Err, inl, inr, refl, ap, sym, ◌∙◌, subst, arith, if◌then◌else◌}
use Rattle.std.specs.Prelude.{option_map, option_and_then}
use Rattle.apfs_model.specs.Blocks.{in_container}
use Rattle.apfs_model.specs.Lists.{In}
use Rattle.apfs_model.specs.Object.{volume_kind}
use Rattle.obj_base.specs.declared.stop.Bad.TheVariants as bads
use Rattle.obj_base.specs.declared.stop.Feature.{Feature}
use Rattle.obj_base.specs.declared.stop.Stop.TheVariants as stops
use Rattle.obj_base.specs.declared.stop.Within.TheVariants.{Physical, Ephemeral, Container, Volume}
use Rattle.bt_node.specs.Entries.{Pair, bytes_in}
use Rattle.bt_node.specs.declared.fault.NodeFault.TheVariants as nodes
use Rattle.obj_base.specs.declared.site.Site.{Site}
use Rattle.bt_keys.specs.Shapes.{snap_shape}
use Rattle.nx_block.specs.Super.{omap_oid_of, fs_oid_of, slots}
use Rattle.nx_ring.specs.Checkpoint.{Seen, site_of}
use Rattle.nx_ring.specs.Newest.{newest_of}
use Rattle.omap_map.specs.Fields.{snap_count_of}
use Rattle.omap_map.specs.Features.{map_features, snapshot_features, container_features, mapping_features}
use Rattle.omap_map.specs.Resolve.{place_of}
use Rattle.omap_map.specs.Maps.{map_in, map_snapshots, is_map_object, resolved_in}
use Rattle.omap_map.specs.declared.records.OmapRecord.{OmapRecord}
use Rattle.omap_map.specs.declared.records.Place.{Place}
use Rattle.vol_view.specs.Heads.{super_in, has_magic, volume_place, volume_block, heads_of}
use Rattle.vol_view.specs.SnapRecords.{snapshot_pairs, snap_super_of, snap_flags_of}
use Rattle.vol_view.specs.Features.{volume_features, snapshot_record_features}
use Rattle.vol_view.specs.Volumes.{super_of, map_block_of, metadata_of}
use Rattle.vol_view.specs.Stops.{IsNamed, IsNamedIn, IsHeadsStop, IsHeadsFeature}
use Rattle.vol_view.specs.LoadStops.{metadata_root, IsSnapshotOf, NamesSuper, IsLoadStop, IsSnapshotSuperFeature, IsLoadFeature}
use Rattle.vol_view.specs.declared.head.VolHead.{VolHead}
use Rattle.vol_view.specs.declared.stop.VolStop.{VolStop}
use Rattle.vol_view.specs.declared.stop.VolStop.TheVariants as volumes
use Rattle.reach_rules.specs.declared.fault.Why.{Why}
use Rattle.reach_rules.specs.declared.fault.Why.TheVariants.{Node, Magic}
use Rattle.reach_rules.specs.declared.naming.ViewAt.{ViewAt}
use Rattle.reach_rules.specs.declared.naming.LookUp.TheVariants.{ByBlock}
use Rattle.reach_rules.specs.declared.naming.Object.TheVariants.{Newest, OfRecord}
use Rattle.reach_rules.specs.declared.naming.Namer.{Namer}
use Rattle.reach_rules.specs.declared.naming.Namer.TheVariants.{Whole, Kept}
use Rattle.reach_rules.specs.declared.naming.TreeKind.TheVariants.{SnapMetadata}
use Rattle.reach_rules.specs.declared.naming.Expected.TheVariants.{ContainerMap, VolumeIn, VolumeMap, SnapshotSuper, TreeRoot}
use Rattle.reach_rules.specs.declared.naming.Naming.{Naming}
use Rattle.reach_rules.specs.Naming.{naming}
use Rattle.reach_rules.specs.Resolved.{Found, resolved, standing, recorded}
use Rattle.reach_rules.specs.Tested.{with_magic, head_tested, tested}
use Rattle.reach_rules.specs.Next.{past_view}
use Rattle.reach_rules.specs.Live.{IsLive}
use Rattle.reach_rules.specs.Features.{Placed, HasFeature, placed_in, record_features, used_features, field_features}
use Rattle.reach_rules.specs.Faults.{IsUnsound, IsUnnamed}
use Rattle.apfs_model.proofs.BoolTests.{in-range}
use Rattle.apfs_model.proofs.Searches.{in-left, in-right, in-flat_map, filter-test}
use Rattle.reach_rules.proofs.Sounds.{map-live}
use Rattle.view_rules.specs.declared.profile.Profile.{Profile}
use Rattle.apfs_check.specs.Volumes.{has_sound_super, sound_heads}
use Rattle.apfs_check.specs.Present.{IsPresent, IsFeature}
use Rattle.apfs_check.specs.Raised.{of_volume}
use Rattle.reach_rules.proofs.Nexts.{in-unless}
use Rattle.reach_rules.proofs.Walks.{IsRootNaming, gap-told}
use Rattle.reach_rules.proofs.Looks.{metadata-walk}
use Rattle.apfs_check.proofs.Named.{place-found, slot_naming, slot-live, IsHeadNaming, head-named, volume-names, in-metadata, super_naming, record-names}
use Rattle.apfs_check.proofs.Loaded.{from-sound}
use Rattle.apfs_check.proofs.There.{feature-there}
use Rattle.apfs_check.proofs.MapsThere.{super-fails, super-lacks, super-refuses, super-passes, feature-of, in-placed, physical-unnamed, physical-unsound, physical-feature, IsMapNaming, map-passes, map-inside, metadata-there, map-there, map-feature}

-- ---- the container's map and the volumes that slots name
container-naming : (image : List ℕ) (seen : Seen) → IsMapNaming image seen (Whole Newest) 160 (omap_oid_of seen.nx) ContainerMap
unfolding tested
container-naming image seen = record { live = map-live image seen; as_map = λ n bytes. refl; as_test = λ bytes. refl }

-- a volume that a slot names, in its block
record IsSlotNaming (image : List ℕ) (seen : Seen) (oid block : ℕ) : Type 0 where
  slot : ℕ
  naming : Naming
  live : IsLive image seen naming
  expected_is : naming.expected ≡ VolumeIn slot
  oid_is : naming.oid ≡ oid
  object : Found
  mapping : OmapRecord
  some : resolved_in image (site_of seen) (omap_oid_of seen.nx) oid seen.line.xid ≡ Some mapping
  found : resolved image seen naming ≡ Some object
  object_is : object.object ≡ OfRecord (omap_oid_of seen.nx) mapping
  block_is : object.block ≡ block
  bytes_are : object.bytes ≡ super_in image (site_of seen) block

slot-found : (image : List ℕ) (seen : Seen) (slot block : ℕ) → slot < slots → (fs_oid_of seen.nx slot == 0) ≡ false → volume_block image seen (fs_oid_of seen.nx slot) ≡ Some block → IsSlotNaming image seen (fs_oid_of seen.nx slot) block
unfolding resolved volume_place
slot-found image seen slot block low some at =
    let r = place-found image (site_of seen) (omap_oid_of seen.nx) block (resolved_in image (site_of seen) (omap_oid_of seen.nx) (fs_oid_of seen.nx slot) seen.line.xid) at in
    record {
      slot = slot;
      naming = slot_naming seen slot;
      live = slot-live image seen slot (in-range 0 slots slot (omega arith) (omega arith)) some;
      expected_is = refl;
      oid_is = refl;
      object = r.object;
      mapping = r.mapping;
      some = r.some;
      found = r.found;
      object_is = r.object_is;
      block_is = r.block_is;
      bytes_are = r.bytes_are;
    }

place-naming : (image : List ℕ) (seen : Seen) (oid : ℕ) (place : Place) → IsNamedIn image seen oid place → IsSlotNaming image seen oid place.block
place-naming image seen oid place n =
    let slot : ℕ = n.named.slot in
    let same : fs_oid_of seen.nx slot ≡ oid = n.named.same in
    let at : volume_block image seen oid ≡ Some place.block = ap (option_and_then (λ (p : Place). in_container (site_of seen).blocks p.block)) n.at ∙ n.inside in
    subst (λ o. IsSlotNaming image seen o place.block) same
    (slot-found image seen slot place.block n.named.low (subst (λ o. (o == 0) ≡ false) (sym same) n.named.some) (subst (λ o. volume_block image seen o ≡ Some place.block) (sym same) at))

-- its tests are those of its superblock
slot-tested : (image : List ℕ) (seen : Seen) (oid block : ℕ) (n : IsSlotNaming image seen oid block) → tested (site_of seen) n.naming.expected n.naming.oid n.object.bytes ≡ with_magic has_magic (head_tested (site_of seen) volume_kind (Some oid) (super_in image (site_of seen) block))
unfolding tested
slot-tested image seen oid block n =
    ap (λ e. tested (site_of seen) e n.naming.oid n.object.bytes) n.expected_is
    ∙ (ap (λ o. tested (site_of seen) (VolumeIn n.slot) o n.object.bytes) n.oid_is ∙ ap (λ b. tested (site_of seen) (VolumeIn n.slot) oid b) n.bytes_are)

slot-unsound : (image : List ℕ) (seen : Seen) (oid block : ℕ) (why : Why) (n : IsSlotNaming image seen oid block) → with_magic has_magic (head_tested (site_of seen) volume_kind (Some oid) (super_in image (site_of seen) block)) ≡ Err (bads.Found why) → IsUnsound image seen block why
slot-unsound image seen oid block why n t = record {
  naming = n.naming;
  object = n.object;
  names = record { live = n.live; found = n.found };
  at = sym n.block_is;
  fails = slot-tested image seen oid block n ∙ t;
}

-- where no record gives a block of the container, nothing is found
record-lost : (image : List ℕ) (site : Site) (map : ℕ) (o : Option OmapRecord) → option_and_then (λ (place : Place). in_container site.blocks place.block) (option_map place_of o) ≡ None → option_and_then (recorded image site map) o ≡ None
record-lost image site map None e = refl
record-lost image site map (Some r) e = ap (option_map (standing image site (OfRecord map r))) e

slot-lost : (image : List ℕ) (seen : Seen) (slot : ℕ) → volume_block image seen (fs_oid_of seen.nx slot) ≡ None → resolved image seen (slot_naming seen slot) ≡ None
unfolding resolved volume_place
slot-lost image seen slot e = record-lost image (site_of seen) (omap_oid_of seen.nx) (resolved_in image (site_of seen) (omap_oid_of seen.nx) (fs_oid_of seen.nx slot) seen.line.xid) e

slot-unnamed : (image : List ℕ) (seen : Seen) (oid : ℕ) → IsNamed seen oid → volume_block image seen oid ≡ None → IsUnnamed image seen Container oid seen.line.xid
slot-unnamed image seen oid n e =
    let slot : ℕ = n.slot in
    let low : slot < slots = n.low in
    record {
      naming = slot_naming seen slot;
      live = slot-live image seen slot (in-range 0 slots slot (omega arith) (omega arith)) (subst (λ o. (o == 0) ≡ false) (sym n.same) n.some);
      lost = slot-lost image seen slot (subst (λ o. volume_block image seen o ≡ None) (sym n.same) e);
      shown = record { within_is = refl; oid_is = sym n.same; xid_is = refl };
    }

-- what `heads` tells is present
pub heads-there : (profile : Profile) (image : List ℕ) (seen : Seen) → newest_of image ≡ Ok seen → (stop : VolStop) → IsHeadsStop image seen stop → IsPresent profile image (of_volume seen.line.xid stop)
heads-there profile image seen new (volumes.Head block why) (oid, place, named, same, test) =
    let n : IsSlotNaming image seen oid block = subst (IsSlotNaming image seen oid) (sym same) (place-naming image seen oid place named) in
    record { seen = seen; newest = new; fact = slot-unsound image seen oid block (Node (nodes.Head why)) n (super-fails image (site_of seen) (Some oid) block why test) }
heads-there profile image seen new (volumes.Magic block) (oid, place, named, same, ok, lacks) =
    let n : IsSlotNaming image seen oid block = subst (IsSlotNaming image seen oid) (sym same) (place-naming image seen oid place named) in
    record { seen = seen; newest = new; fact = slot-unsound image seen oid block Magic n (super-lacks image (site_of seen) (Some oid) block ok lacks) }
heads-there profile image seen new (volumes.Unnamed Physical oid) (same, lost) =
    subst (λ o. IsPresent profile image (of_volume seen.line.xid (volumes.Unnamed Physical o))) (sym same) (record {
      seen = seen;
      newest = new;
      fact =
          physical-unnamed image seen (Whole Newest) 160 ContainerMap (omap_oid_of seen.nx) (map-live image seen) (subst (λ o. in_container (site_of seen).blocks o ≡ None) same lost);
    })
heads-there profile image seen new (volumes.Unnamed Container oid) (named, lost) = record { seen = seen; newest = new; fact = slot-unnamed image seen oid named lost }
heads-there profile image seen new (volumes.Omap fault) p = map-there profile image seen new (Whole Newest) 160 (omap_oid_of seen.nx) ContainerMap (container-naming image seen) fault p
heads-there profile image seen new fault p = absurd p

-- ---- a volume whose superblock is sound
-- the map that it names
volume-naming : (image : List ℕ) (seen : Seen) (head : VolHead) (n : IsHeadNaming image seen head) → has_sound_super image (site_of seen) head ≡ true → IsMapNaming image seen (Whole n.object.object) 128 (map_block_of image (site_of seen) head) VolumeMap
unfolding tested
volume-naming image seen head n sound = record {
  live = volume-names image seen head n sound (naming (Whole n.object.object) 128 VolumeMap ByBlock (map_block_of image (site_of seen) head)) (inl refl);
  as_map = λ m bytes. refl;
  as_test = λ bytes. refl;
}

-- the naming of a snapshot's superblock in a block
record IsSuperNaming (image : List ℕ) (seen : Seen) (block : ℕ) : Type 0 where
  view : ViewAt
  live : IsLive image seen (naming (Kept view) 8 (SnapshotSuper view) ByBlock block)

super-naming : (image : List ℕ) (seen : Seen) (head : VolHead) (n : IsHeadNaming image seen head) → has_sound_super image (site_of seen) head ≡ true → (pair : Pair) → IsSnapshotOf image (site_of seen) head pair → IsSuperNaming image seen (snap_super_of (bytes_in pair.value))
super-naming image seen head n sound pair s =
    let r = record-names image seen head n sound pair s.one s.long in
    let view : ViewAt = past_view head.slot (super_of image (site_of seen) head) r.0 pair in
    record { view = view; live = r.1 (super_naming view pair) (inl refl) }

block-naming : (image : List ℕ) (seen : Seen) (head : VolHead) (n : IsHeadNaming image seen head) → has_sound_super image (site_of seen) head ≡ true → (block : ℕ) → NamesSuper image (site_of seen) head block → IsSuperNaming image seen block
block-naming image seen head n sound block s = subst (IsSuperNaming image seen) s.same (super-naming image seen head n sound s.pair s.one)

-- what `load` tells of a volume of a slot is present
load-here : (profile : Profile) (image : List ℕ) (seen : Seen) → newest_of image ≡ Ok seen → (head : VolHead) → In head (sound_heads image seen) → (n : IsHeadNaming image seen head) → has_sound_super image (site_of seen) head ≡ true → (stop : VolStop) → IsLoadStop image (site_of seen) head stop → IsPresent profile image (of_volume seen.line.xid stop)
unfolding tested
load-here profile image seen new head one n sound (volumes.Head block why) (super, test) =
    let s = block-naming image seen head n sound block super.named in
    record { seen = seen; newest = new; fact = physical-unsound image seen (Kept s.view) 8 (SnapshotSuper s.view) block (Node (nodes.Head why)) s.live super.inside (super-fails image (site_of seen) None block why test) }
load-here profile image seen new head one n sound (volumes.Magic block) (super, ok, lacks) =
    let s = block-naming image seen head n sound block super.named in
    record { seen = seen; newest = new; fact = physical-unsound image seen (Kept s.view) 8 (SnapshotSuper s.view) block Magic s.live super.inside (super-lacks image (site_of seen) None block ok lacks) }
load-here profile image seen new head one n sound (volumes.Unnamed Physical oid) (inl same, lost) =
    let m = volume-naming image seen head n sound in
    subst (λ o. IsPresent profile image (of_volume seen.line.xid (volumes.Unnamed Physical o))) (sym same) (record {
      seen = seen;
      newest = new;
      fact =
          physical-unnamed image seen (Whole n.object.object) 128 VolumeMap (map_block_of image (site_of seen) head) m.live (subst (λ o. in_container (site_of seen).blocks o ≡ None) same lost);
    })
load-here profile image seen new head one n sound (volumes.Unnamed Physical oid) (inr super, lost) =
    let s = block-naming image seen head n sound oid super in
    record { seen = seen; newest = new; fact = physical-unnamed image seen (Kept s.view) 8 (SnapshotSuper s.view) oid s.live lost }
load-here profile image seen new head one n sound (volumes.Unnamed Container oid) p = absurd p
load-here profile image seen new head one n sound (volumes.Unnamed Ephemeral oid) p = absurd p
load-here profile image seen new head one n sound (volumes.Unnamed (Volume slot) oid) p = absurd p
load-here profile image seen new head one n sound (volumes.Omap fault) p = map-there profile image seen new (Whole n.object.object) 128 (map_block_of image (site_of seen) head) VolumeMap (volume-naming image seen head n sound) fault p
load-here profile image seen new head one n sound (volumes.Walk root why) (same, some, there) =
    let me : Namer = Whole n.object.object in
    let m : Naming = naming me 152 (TreeRoot SnapMetadata) ByBlock (metadata_root image (site_of seen) head) in
    let some-is : (metadata_root image (site_of seen) head == 0) ≡ false = subst (λ r. (r == 0) ≡ false) same some in
    let r : IsRootNaming image seen SnapMetadata ByBlock (metadata_root image (site_of seen) head) = record {
      naming = m;
      live = volume-names image seen head n sound m (in-metadata image seen head.slot me (super_of image (site_of seen) head) m (in-unless me 152 (TreeRoot SnapMetadata) ByBlock _ some-is));
      expected_is = refl;
      how_is = refl;
      oid_is = refl;
    } in
    metadata-there profile image seen new root (subst (IsRootNaming image seen SnapMetadata ByBlock) (sym same) r) why there
load-here profile image seen new head one n sound fault p = record { seen = seen; newest = new; fact = record { head = head; one = one; there = p } }

pub sound-head : (image : List ℕ) (seen : Seen) (head : VolHead) → In head (sound_heads image seen) → has_sound_super image (site_of seen) head ≡ true
unfolding sound_heads
sound-head image seen head h = filter-test (has_sound_super image (site_of seen)) head (heads_of image seen) h

pub load-there : (profile : Profile) (image : List ℕ) (seen : Seen) → newest_of image ≡ Ok seen → (head : VolHead) → In head (sound_heads image seen) → (stop : VolStop) → IsLoadStop image (site_of seen) head stop → IsPresent profile image (of_volume seen.line.xid stop)
load-there profile image seen new head one stop p =
    load-here profile image seen new head one (head-named image seen head (from-sound image seen head one)) (sound-head image seen head one) stop p

-- ---- features
map-fields : (image : List ℕ) (seen : Seen) (oid : ℕ) (xs : List Placed) (feature : Feature) → In feature (map_features (map_in image (site_of seen) oid)) → In (feature, oid) (placed_in oid (map_features (map_in image (site_of seen) oid) ++ snapshot_features (map_snapshots image (site_of seen) oid)))
map-fields image seen oid xs feature h = in-placed feature oid _ (in-left feature (map_features (map_in image (site_of seen) oid)) (snapshot_features (map_snapshots image (site_of seen) oid)) h)

container-fields : (image : List ℕ) (seen : Seen) (oid : ℕ) (feature : Feature) →
    In feature (map_features (map_in image (site_of seen) oid)) → In (feature, oid) (field_features image seen ContainerMap oid (map_in image (site_of seen) oid))
container-fields image seen oid feature h =
    in-placed feature oid _ (in-left feature (map_features (map_in image (site_of seen) oid) ++ snapshot_features (map_snapshots image (site_of seen) oid)) (container_features (snap_count_of (map_in image (site_of seen) oid)))
    (in-left feature (map_features (map_in image (site_of seen) oid)) (snapshot_features (map_snapshots image (site_of seen) oid)) h))

at-place : (image : List ℕ) (seen : Seen) (oid : ℕ) (place : Place) → IsNamedIn image seen oid place → option_map place_of (resolved_in image (site_of seen) (omap_oid_of seen.nx) oid seen.line.xid) ≡ Some place
unfolding volume_place
at-place image seen oid place n = n.at

-- a feature that `heads` tells is present
heads-has : (image : List ℕ) (seen : Seen) (feature : Feature) (block : ℕ) → IsHeadsFeature image seen feature block → HasFeature image seen feature block
heads-has image seen feature block (inl p) =
    map-feature image seen (Whole Newest) 160 (omap_oid_of seen.nx) ContainerMap (container-naming image seen) (λ xs f h. container-fields image seen (omap_oid_of seen.nx) f h) feature block p
heads-has image seen feature block (inr (inl (same, (ok, h)))) =
    let oid : ℕ = omap_oid_of seen.nx in
    let bytes : List ℕ = map_in image (site_of seen) oid in
    let n = container-naming image seen in
    let snaps : List Feature = snapshot_features (map_snapshots image (site_of seen) oid) in
    let counted : List Feature = container_features (snap_count_of bytes) in
    let listed : In (feature, oid) (field_features image seen ContainerMap oid bytes) = elim h as (λ _. In (feature, oid) (field_features image seen ContainerMap oid bytes)) [
      | inl a ↦ in-placed feature oid _ (in-right feature (map_features bytes ++ snaps) counted a)
      | inr b ↦ in-placed feature oid _ (in-left feature (map_features bytes ++ snaps) counted (in-right feature (map_features bytes) snaps b))
    ] in
    subst (HasFeature image seen feature) (sym same) (physical-feature image seen (Whole Newest) 160 ContainerMap oid (Ok bytes) feature oid n.live (map-inside image (site_of seen) oid ok)
    (map-passes image seen (Whole Newest) 160 oid ContainerMap n ok) listed)
heads-has image seen feature block (inr (inr (oid, place, named, same, inl h))) =
    let n = place-naming image seen oid place named in
    let f : Found = n.object in
    let site : Site = site_of seen in
    let e : ◌≡◌ {A = Option Place} (Some (place_of n.mapping)) (Some place) = ap (option_map place_of) (sym n.some) ∙ at-place image seen oid place named in
    let p : place_of n.mapping ≡ place = cc in
    let listed : In (feature, n.mapping.paddr) (used_features site (OfRecord (omap_oid_of seen.nx) n.mapping)) =
    in-placed feature n.mapping.paddr (mapping_features site.block_size n.mapping.flags n.mapping.size) (subst (λ (x : Place). In feature (mapping_features site.block_size x.flags x.size)) (sym p) h) in
    let k : n.mapping.paddr ≡ block = ap (λ (x : Place). x.block) p ∙ sym same in
    subst (HasFeature image seen feature) k (feature-of image seen n.naming f (tested site n.naming.expected n.naming.oid f.bytes) feature n.mapping.paddr n.live n.found refl
    (in-left (feature, n.mapping.paddr) (used_features site f.object) _ (subst (λ o. In (feature, n.mapping.paddr) (used_features site o)) (sym n.object_is) listed)))
heads-has image seen feature block (inr (inr (oid, place, named, same, inr t))) =
    let n : IsSlotNaming image seen oid block = subst (IsSlotNaming image seen oid) (sym same) (place-naming image seen oid place named) in
    let f : Found = n.object in
    let k : f.block ≡ block = n.block_is in
    subst (HasFeature image seen feature) k (feature-of image seen n.naming f (Err (bads.Unsupported feature)) feature f.block n.live n.found
    (slot-tested image seen oid block n ∙ super-refuses image (site_of seen) (Some oid) block feature t) (in-right (feature, f.block) (used_features (site_of seen) f.object) _ (inl refl)))

pub heads-feature : (image : List ℕ) (seen : Seen) → newest_of image ≡ Ok seen → (feature : Feature) (block : ℕ) → IsHeadsFeature image seen feature block → IsFeature image feature block
heads-feature image seen new feature block p = feature-there image seen new feature block (heads-has image seen feature block p)

-- a feature of the superblock of a sound volume, or of a snapshot's record
head-feature : (image : List ℕ) (seen : Seen) (head : VolHead) (n : IsHeadNaming image seen head) → has_sound_super image (site_of seen) head ≡ true → (feature : Feature) (block : ℕ) → In (feature, block) (field_features image seen (VolumeIn head.slot) head.block (super_of image (site_of seen) head)) → HasFeature image seen feature block
unfolding tested
head-feature image seen head n sound feature block h =
    let f : Found = n.object in
    let site : Site = site_of seen in
    let bytes : List ℕ = super_of image site head in
    let t : tested site n.naming.expected n.naming.oid f.bytes ≡ Ok bytes =
    ap (λ e. tested site e n.naming.oid f.bytes) n.expected_is
    ∙ (ap (λ o. tested site (VolumeIn head.slot) o f.bytes) n.oid_is ∙ (ap (λ b. tested site (VolumeIn head.slot) head.oid b) n.bytes_are ∙ super-passes image site (Some head.oid) head.block sound)) in
    let listed : In (feature, block) (field_features image seen n.naming.expected f.block f.bytes) =
    subst (λ e. In (feature, block) (field_features image seen e f.block f.bytes)) (sym n.expected_is)
    (subst (λ k. In (feature, block) (field_features image seen (VolumeIn head.slot) k f.bytes)) (sym n.block_is)
    (subst (λ b. In (feature, block) (field_features image seen (VolumeIn head.slot) head.block b)) (sym n.bytes_are) h)) in
    feature-of image seen n.naming f (Ok bytes) feature block n.live n.found t (in-right (feature, block) (used_features site f.object) _ listed)

-- a feature that `load` tells of a volume is present
load-has : (image : List ℕ) (seen : Seen) (head : VolHead) (n : IsHeadNaming image seen head) → has_sound_super image (site_of seen) head ≡ true → (feature : Feature) (block : ℕ) → IsLoadFeature image (site_of seen) head feature block → HasFeature image seen feature block
unfolding tested
load-has image seen head n sound feature block (inl (same, h)) =
    let features : List Feature = volume_features (super_of image (site_of seen) head) in
    subst (HasFeature image seen feature) (sym same) (head-feature image seen head n sound feature head.block (in-left (feature, head.block) (placed_in head.block features) _ (in-placed feature head.block features h)))
load-has image seen head n sound feature block (inr (inl p)) =
    map-feature image seen (Whole n.object.object) 128 (map_block_of image (site_of seen) head) VolumeMap (volume-naming image seen head n sound) (λ xs f h. map-fields image seen (map_block_of image (site_of seen) head) [] f h) feature block p
load-has image seen head n sound feature block (inr (inr (inl (same, ok, h)))) =
    let oid : ℕ = map_block_of image (site_of seen) head in
    let bytes : List ℕ = map_in image (site_of seen) oid in
    let m = volume-naming image seen head n sound in
    let ok-is : is_map_object image (site_of seen) oid ≡ true = subst (λ b. is_map_object image (site_of seen) b ≡ true) same ok in
    let h-is : In feature (snapshot_features (map_snapshots image (site_of seen) oid)) = subst (λ b. In feature (snapshot_features (map_snapshots image (site_of seen) b))) same h in
    subst (HasFeature image seen feature) (sym same) (physical-feature image seen (Whole n.object.object) 128 VolumeMap oid (Ok bytes) feature oid m.live (map-inside image (site_of seen) oid ok-is)
    (map-passes image seen (Whole n.object.object) 128 oid VolumeMap m ok-is) (in-placed feature oid _ (in-right feature (map_features bytes) (snapshot_features (map_snapshots image (site_of seen) oid)) h-is)))
load-has image seen head n sound feature block (inr (inr (inr (inl (some, gap))))) =
    let me : Namer = Whole n.object.object in
    let m : Naming = naming me 152 (TreeRoot SnapMetadata) ByBlock (metadata_root image (site_of seen) head) in
    let r : IsRootNaming image seen SnapMetadata ByBlock (metadata_root image (site_of seen) head) = record {
      naming = m;
      live = volume-names image seen head n sound m (in-metadata image seen head.slot me (super_of image (site_of seen) head) m (in-unless me 152 (TreeRoot SnapMetadata) ByBlock _ some));
      expected_is = refl;
      how_is = refl;
      oid_is = refl;
    } in
    gap-told image seen SnapMetadata ByBlock snap_shape (in_container (site_of seen).blocks) (metadata-walk image seen) (metadata_root image (site_of seen) head) r (stops.Unsupported feature block) gap
load-has image seen head n sound feature block (inr (inr (inr (inr s)))) =
    let pair : Pair = s.pair in
    let site : Site = site_of seen in
    let oid : ℕ = snap_super_of (bytes_in pair.value) in
    let marks : List Feature = snapshot_record_features (snap_flags_of (bytes_in pair.value)) in
    subst (HasFeature image seen feature) s.same (elim s.has as (λ _. HasFeature image seen feature oid) [
      | inl h ↦
          let listed : In (feature, oid) (record_features pair) = subst (λ b. In (feature, oid) (if b then placed_in oid marks else [])) (sym s.one.long) (in-placed feature oid marks h) in
          head-feature image seen head n sound feature oid (in-right (feature, oid) (placed_in head.block (volume_features (super_of image site head))) _
          (in-flat_map record_features pair (feature, oid) (snapshot_pairs (metadata_of image site head)) s.one.one listed))
      | inr super ↦
          let p : IsSnapshotSuperFeature image site feature oid = subst (IsSnapshotSuperFeature image site feature) (sym s.same) super in
          let k = super-naming image seen head n sound pair s.one in
          elim p.1 as (λ _. HasFeature image seen feature oid) [
            | inl t ↦ physical-feature image seen (Kept k.view) 8 (SnapshotSuper k.view) oid (Err (bads.Unsupported feature)) feature oid k.live p.0 (super-refuses image site None oid feature t) (inl refl)
            | inr t ↦ physical-feature image seen (Kept k.view) 8 (SnapshotSuper k.view) oid (Ok (super_in image site oid)) feature oid k.live p.0 (super-passes image site None oid t.0) (in-placed feature oid _ t.1)
          ]
    ])

pub load-feature : (image : List ℕ) (seen : Seen) → newest_of image ≡ Ok seen → (head : VolHead) → In head (sound_heads image seen) → (feature : Feature) (block : ℕ) → IsLoadFeature image (site_of seen) head feature block → IsFeature image feature block
load-feature image seen new head one feature block p =
    feature-there image seen new feature block (load-has image seen head (head-named image seen head (from-sound image seen head one)) (sound-head image seen head one) feature block p)
