-- Where a container is accounted and the snapshots of its volumes agree, its volumes are found, and each can be loaded.
use Rattle.std.proofs.Common.{◌≡◌, ℕ, ◌<◌, Bool, true, false, ◌&&◌, ◌||◌, ◌==◌, nat_lt, List, [], ◌∷◌, ◌++◌, map, Option, Some, None, Ok, Err, is_ok, inl, inr, refl, ap, sym, ◌∙◌, subst, arith, if◌then◌else◌}
use Rattle.std.specs.Prelude.{option_map, option_and_then, is_some, is_none, flat_map}
use Rattle.apfs_model.specs.Blocks.{in_container}
use Rattle.apfs_model.specs.Lists.{In, through}
use Rattle.obj_base.specs.declared.stop.Feature.{Feature}
use Rattle.obj_base.specs.declared.stop.Feature.TheVariants.{Revert}
use Rattle.obj_base.specs.declared.stop.Stop.{Stop}
use Rattle.obj_base.specs.declared.stop.Stop.TheVariants.{Found as Fails, Unsupported}
use Rattle.bt_node.specs.Shape.{Shape}
use Rattle.bt_node.specs.Entries.{Pair, bytes_in}
use Rattle.obj_base.specs.declared.site.Site.{Site}
use Rattle.bt_keys.specs.Shapes.{omap_shape, omap_snap_shape, snap_shape}
use Rattle.bt_cursor.specs.declared.fault.WalkFault.{WalkFault}
use Rattle.bt_cursor.specs.declared.fault.WalkFault.TheVariants as walks
use Rattle.bt_cursor.specs.Tree.{tree_in}
use Rattle.bt_cursor.specs.Line.{line_of}
use Rattle.bt_cursor.specs.Order.{out_of_order}
use Rattle.bt_cursor.specs.Counts.{is_counted}
use Rattle.bt_cursor.specs.Whole.{is_whole}
use Rattle.nx_block.specs.Super.{omap_oid_of, fs_oid_of, slots}
use Rattle.nx_ring.specs.Checkpoint.{Seen, site_of}
use Rattle.nx_ring.specs.Newest.{newest_of}
use Rattle.omap_map.specs.Fields.{snap_count_of, tree_of, snap_tree_of}
use Rattle.omap_map.specs.Features.{is_reverting, map_features, snapshot_features, container_features, mapping_features}
use Rattle.omap_map.specs.Resolve.{place_of}
use Rattle.omap_map.specs.Maps.{map_in, record_tree, snapshot_tree, map_snapshots, has_no_snapshots, has_whole_snapshots, is_map_object, is_whole_map, resolved_in}
use Rattle.omap_map.specs.declared.records.OmapRecord.{OmapRecord}
use Rattle.vol_view.specs.Heads.{super_in, is_super, volume_place, heads_of}
use Rattle.vol_view.specs.SnapRecords.{metadata_tree, snapshot_pairs, snap_super_of, snap_flags_of, is_snapshot_long}
use Rattle.vol_view.specs.Features.{volume_features, snapshot_super_features, snapshot_record_features}
use Rattle.vol_view.specs.Volumes.{super_of, map_block_of, metadata_of, has_super}
use Rattle.vol_view.specs.Stops.{IsPlainMap, IsVolume, AreRight, AreHeads}
use Rattle.vol_view.specs.LoadStops.{metadata_root, has_whole_metadata, IsRightSnapshot, IsLoadable, IsVolumeOf}
use Rattle.vol_view.specs.Views.{views_of}
use Rattle.vol_view.specs.declared.head.VolHead.{VolHead}
use Rattle.vol_view.specs.declared.volume.View.{View}
use Rattle.reach_rules.specs.declared.fault.Why.TheVariants.{Node}
use Rattle.reach_rules.specs.declared.fault.ReachFault.TheVariants as sweeps
use Rattle.reach_rules.specs.declared.naming.ViewAt.{ViewAt}
use Rattle.reach_rules.specs.declared.naming.LookUp.{LookUp}
use Rattle.reach_rules.specs.declared.naming.LookUp.TheVariants.{ByBlock}
use Rattle.reach_rules.specs.declared.naming.Object.TheVariants.{Newest, InBlock, OfRecord}
use Rattle.reach_rules.specs.declared.naming.Namer.{Namer}
use Rattle.reach_rules.specs.declared.naming.Namer.TheVariants.{Whole, Kept}
use Rattle.reach_rules.specs.declared.naming.TreeKind.{TreeKind}
use Rattle.reach_rules.specs.declared.naming.TreeKind.TheVariants.{MapRecords, MapSnapshots, SnapMetadata}
use Rattle.reach_rules.specs.declared.naming.Expected.{Expected}
use Rattle.reach_rules.specs.declared.naming.Expected.TheVariants.{ContainerMap, VolumeIn, VolumeMap, SnapshotSuper, TreeRoot}
use Rattle.reach_rules.specs.declared.naming.Naming.{Naming}
use Rattle.reach_rules.specs.Naming.{naming}
use Rattle.reach_rules.specs.Resolved.{Found, resolved, standing, recorded}
use Rattle.reach_rules.specs.Tested.{Answer, tested}
use Rattle.reach_rules.specs.Next.{names, map_namings, past_view}
use Rattle.reach_rules.specs.Live.{IsLive, NamesSound, led}
use Rattle.reach_rules.specs.Features.{placed_in, record_features, used_features, tested_features, field_features, features_through}
use Rattle.reach_rules.specs.Faults.{within_of, xid_of}
use Rattle.reach_rules.specs.Trees.{tree_line, misplaced, has_counts}
use Rattle.reach_rules.specs.Accounted.{IsAccounted}
use Rattle.apfs_check.specs.Laws.{IsBrowsable}
use Rattle.apfs_model.proofs.BoolTests.{test_or, left-true, right-true, both-true, left-or, right-or, in-range}
use Rattle.reach_rules.proofs.Nexts.{in-next, in-unless}
use Rattle.reach_rules.proofs.Sounds.{map_naming, map-live, container-map-sound}
use Rattle.reach_rules.proofs.Refutes as reached
use Rattle.view_rules.specs.declared.profile.Profile.{Profile}
use Rattle.view_rules.specs.declared.profile.Profile.TheVariants.{Strict}
use Rattle.apfs_check.specs.Volumes.{volume_of}
use Rattle.apfs_check.specs.Data.{HasRightData}
use Rattle.apfs_check.specs.WellFormed.{HasAgreement, HasViewRules, IsWellFormed}
use Rattle.apfs_model.proofs.Inside.{inside-itself}
use Rattle.apfs_model.proofs.Empty.{left-none, right-none, map-none, flat-none}
use Rattle.reach_rules.proofs.Looks.{standing-by}
use Rattle.reach_rules.proofs.Walks.{IsWalkOf, IsRootNaming, Told, walkable-from}
use Rattle.reach_rules.proofs.Looks.{records-walk, snapshots-walk, metadata-walk}
use Rattle.apfs_check.proofs.Named.{volume-tested, slot_naming, slot-live, head-named, volume-names, in-metadata, super_naming, record-names}
use Rattle.apfs_check.proofs.Loaded.{sound-super, sound-map, sound-snapshot, readable-long}

-- ---- lists and tests
no-feature : (b : Bool) (feature : Feature) → (if b then feature ∷ [] else []) ≡ [] → b ≡ false
no-feature true feature e = absurd (cc)
no-feature false feature e = refl

-- ---- nothing is there where the container is accounted
told-clear : (image : List ℕ) (seen : Seen) → IsAccounted image seen → (how : LookUp) (why : Stop WalkFault) → Told image seen how why → ⊥
told-clear image seen w how (Fails (walks.Unsound block why)) t = reached.refutes image seen (sweeps.Unsound block (Node why)) t w
told-clear image seen w how (Fails (walks.Unnamed oid)) t = reached.refutes image seen (sweeps.Unnamed (within_of how) oid (xid_of seen how)) t w
told-clear image seen w how (Unsupported feature block) t = reached.refutes-feature image seen feature block t w
told-clear image seen w how why t = t

-- ---- the physical trees are whole
tree-whole : {K : Type 0} (image : List ℕ) (seen : Seen) → IsAccounted image seen → (kind : TreeKind) (shape : Shape K) → IsWalkOf image seen kind ByBlock shape (in_container (site_of seen).blocks) →
    ((root : ℕ) → misplaced image seen kind root ≡ out_of_order shape (line_of (tree_in shape (site_of seen) (in_container (site_of seen).blocks) image) root)) →
    ((root : ℕ) → has_counts image seen kind root ≡ is_counted (tree_in shape (site_of seen) (in_container (site_of seen).blocks) image) root) →
    (root : ℕ) → IsRootNaming image seen kind ByBlock root → is_whole (tree_in shape (site_of seen) (in_container (site_of seen).blocks) image) root ≡ true
tree-whole image seen w kind shape walk order count root r =
    let walkable = walkable-from image seen kind ByBlock shape (in_container (site_of seen).blocks) walk root r (told-clear image seen w ByBlock) in
    let right = w.trees r.naming kind r.live r.expected_is in
    let ordered = sym (order root) ∙ subst (λ o. misplaced image seen kind o ≡ None) r.oid_is right.ordered in
    let counted = sym (count root) ∙ subst (λ o. has_counts image seen kind o ≡ true) r.oid_is right.counted in
    both-true _ _ walkable (both-true _ _ (ap (λ (o : Option ℕ). is_none o) ordered) counted)

records-whole : (image : List ℕ) (seen : Seen) → IsAccounted image seen → (root : ℕ) → IsRootNaming image seen MapRecords ByBlock root → is_whole (record_tree image (site_of seen)) root ≡ true
unfolding misplaced has_counts tree_line
records-whole image seen w root r = tree-whole image seen w MapRecords omap_shape (records-walk image seen) (λ x. refl) (λ x. refl) root r

snapshots-whole : (image : List ℕ) (seen : Seen) → IsAccounted image seen → (root : ℕ) → IsRootNaming image seen MapSnapshots ByBlock root → is_whole (snapshot_tree image (site_of seen)) root ≡ true
unfolding misplaced has_counts tree_line
snapshots-whole image seen w root r = tree-whole image seen w MapSnapshots omap_snap_shape (snapshots-walk image seen) (λ x. refl) (λ x. refl) root r

metadata-whole : (image : List ℕ) (seen : Seen) → IsAccounted image seen → (root : ℕ) → IsRootNaming image seen SnapMetadata ByBlock root → is_whole (metadata_tree image (site_of seen)) root ≡ true
unfolding misplaced has_counts tree_line
metadata-whole image seen w root r = tree-whole image seen w SnapMetadata snap_shape (metadata-walk image seen) (λ x. refl) (λ x. refl) root r

-- ---- what is found by a block
physical-is : (image : List ℕ) (seen : Seen) (namer : Namer) (at : ℕ) (e : Expected) (oid : ℕ) (f : Found) → resolved image seen (naming namer at e ByBlock oid) ≡ Some f → f ≡ standing image (site_of seen) (InBlock oid) oid
unfolding resolved
physical-is image seen namer at e oid f h = standing-by image (site_of seen) oid f h

-- ---- a named object has no feature
fields-plain : (image : List ℕ) (seen : Seen) (expected : Expected) (f : Found) (a : Answer) → is_ok a ≡ true → tested_features image seen expected f a ≡ [] → field_features image seen expected f.block f.bytes ≡ []
fields-plain image seen expected f (Ok b) ok e = e
fields-plain image seen expected f (Err bad) ok e = absurd (let z : false ≡ true = ok in let q : ⊥ = cc in q)

through-plain : (image : List ℕ) (seen : Seen) → IsAccounted image seen → (n : Naming) (f : Found) → NamesSound image seen n f → (used_features (site_of seen) f.object ++ tested_features image seen n.expected f (tested (site_of seen) n.expected n.oid f.bytes)) ≡ []
unfolding features_through
through-plain image seen w n f s =
    subst (λ o. through o (λ (g : Found). used_features (site_of seen) g.object ++ tested_features image seen n.expected g (tested (site_of seen) n.expected n.oid g.bytes)) ≡ []) s.names.found (w.plain.all n s.names.live)

plain-fields : (image : List ℕ) (seen : Seen) → IsAccounted image seen → (n : Naming) (f : Found) → NamesSound image seen n f → field_features image seen n.expected f.block f.bytes ≡ []
plain-fields image seen w n f s =
    fields-plain image seen n.expected f (tested (site_of seen) n.expected n.oid f.bytes) s.sound (right-none (used_features (site_of seen) f.object) _ (through-plain image seen w n f s))

plain-use : (image : List ℕ) (seen : Seen) → IsAccounted image seen → (n : Naming) (f : Found) → NamesSound image seen n f → used_features (site_of seen) f.object ≡ []
plain-use image seen w n f s = left-none (used_features (site_of seen) f.object) _ (through-plain image seen w n f s)

-- ---- object maps
-- an object map that is named
record IsMapNamed (image : List ℕ) (seen : Seen) (namer : Namer) (at oid : ℕ) (e : Expected) : Type 0 where
  live : IsLive image seen (naming namer at e ByBlock oid)
  as_map : (n : Namer) (bytes : List ℕ) → names image seen ByBlock e n bytes ≡ map_namings n bytes
  sound : is_map_object image (site_of seen) oid ≡ true

-- what such a map names is live
map-names : (image : List ℕ) (seen : Seen) → IsAccounted image seen → (namer : Namer) (at oid : ℕ) (e : Expected) → IsMapNamed image seen namer at oid e → (m : Naming) → In m (map_namings (Whole (InBlock oid)) (map_in image (site_of seen) oid)) → IsLive image seen m
map-names image seen w namer at oid e n m h =
    let s : Naming = naming namer at e ByBlock oid in
    let t = w.names.named s n.live in
    let same : t.0 ≡ standing image (site_of seen) (InBlock oid) oid = physical-is image seen namer at e oid t.0 t.1.names.found in
    let listed : In m (names image seen ByBlock e (Whole t.0.object) t.0.bytes) =
    subst (λ (f : Found). In m (names image seen ByBlock e (Whole f.object) f.bytes)) (sym same) (subst (λ xs. In m xs) (sym (n.as_map (Whole (InBlock oid)) (map_in image (site_of seen) oid))) h) in
    led s m n.live (in-next image seen s m (record { object = t.0; found = t.1.names.found; sound = t.1.sound; names = listed }))

map-whole : (image : List ℕ) (seen : Seen) → IsAccounted image seen → (namer : Namer) (at oid : ℕ) (e : Expected) → IsMapNamed image seen namer at oid e → is_whole_map image (site_of seen) oid ≡ true
unfolding is_whole_map has_whole_snapshots
map-whole image seen w namer at oid e n =
    let me : Namer = Whole (InBlock oid) in
    let bytes : List ℕ = map_in image (site_of seen) oid in
    let root : Naming = naming me 48 (TreeRoot MapRecords) ByBlock (tree_of bytes) in
    let records : is_whole (record_tree image (site_of seen)) (tree_of bytes) ≡ true = records-whole image seen w (tree_of bytes) (record {
      naming = root;
      live = map-names image seen w namer at oid e n root (inl refl);
      expected_is = refl;
      how_is = refl;
      oid_is = refl;
    }) in
    let snaps : Naming = naming me 56 (TreeRoot MapSnapshots) ByBlock (snap_tree_of bytes) in
    let whole : (has_no_snapshots bytes || is_whole (snapshot_tree image (site_of seen)) (snap_tree_of bytes)) ≡ true = elim (test_or (has_no_snapshots bytes)) as (λ _. (has_no_snapshots bytes || is_whole (snapshot_tree image (site_of seen)) (snap_tree_of bytes)) ≡ true) [
      | inl none ↦ left-or (has_no_snapshots bytes) _ none
      | inr some ↦ right-or (has_no_snapshots bytes) _ (snapshots-whole image seen w (snap_tree_of bytes) (record {
        naming = snaps;
        live = map-names image seen w namer at oid e n snaps (inr (in-unless me 56 (TreeRoot MapSnapshots) ByBlock (snap_tree_of bytes) some));
        expected_is = refl;
        how_is = refl;
        oid_is = refl;
      }))
    ] in
    both-true (is_map_object image (site_of seen) oid) _ n.sound (both-true (is_whole (record_tree image (site_of seen)) (tree_of bytes)) _ records whole)

-- the features of a map that is named
map-fields : (image : List ℕ) (seen : Seen) → IsAccounted image seen → (namer : Namer) (at oid : ℕ) (e : Expected) → IsLive image seen (naming namer at e ByBlock oid) → field_features image seen e oid (map_in image (site_of seen) oid) ≡ []
map-fields image seen w namer at oid e live =
    let n : Naming = naming namer at e ByBlock oid in
    let t = w.names.named n live in
    let same : t.0 ≡ standing image (site_of seen) (InBlock oid) oid = physical-is image seen namer at e oid t.0 t.1.names.found in
    subst (λ (f : Found). field_features image seen e f.block f.bytes ≡ []) same (plain-fields image seen w n t.0 t.1)

-- ---- the container's map
container-named : (image : List ℕ) (seen : Seen) → IsAccounted image seen → IsMapNamed image seen (Whole Newest) 160 (omap_oid_of seen.nx) ContainerMap
container-named image seen w =
    let t = w.names.named (map_naming seen) (map-live image seen) in
    record { live = map-live image seen; as_map = λ n bytes. refl; sound = container-map-sound image seen _ 160 (omap_oid_of seen.nx) t.0 t.1 }

plain-map : (image : List ℕ) (seen : Seen) → IsAccounted image seen → IsPlainMap image seen
plain-map image seen w =
    let block : ℕ = omap_oid_of seen.nx in
    let bytes : List ℕ = map_in image (site_of seen) block in
    let n = container-named image seen w in
    let all = map-none (λ feature. (feature, block)) _ (map-fields image seen w _ 160 block ContainerMap n.live) in
    let object : map_features bytes ++ snapshot_features (map_snapshots image (site_of seen) block) ≡ [] = left-none _ (container_features (snap_count_of bytes)) all in
    record {
      whole = map-whole image seen w _ 160 block ContainerMap n;
      settled = no-feature (is_reverting bytes) Revert (left-none (map_features bytes) _ object);
      plain = right-none (map_features bytes ++ snapshot_features (map_snapshots image (site_of seen) block)) _ all;
      unmarked = right-none (map_features bytes) _ object;
    }

-- ---- the volumes that slots name
record IsRecordedBy (image : List ℕ) (site : Site) (map : ℕ) (o : Option OmapRecord) (f : Found) : Type 0 where
  mapping : OmapRecord
  some : o ≡ Some mapping
  inside : in_container site.blocks mapping.paddr ≡ Some mapping.paddr
  same : f ≡ standing image site (OfRecord map mapping) mapping.paddr

recorded-by : (image : List ℕ) (site : Site) (map : ℕ) (o : Option OmapRecord) (f : Found) → option_and_then (recorded image site map) o ≡ Some f → IsRecordedBy image site map o f
recorded-by image site map None f e = absurd (let z : ◌≡◌ {A = Option Found} None (Some f) = e in let q : ⊥ = cc in q)
recorded-by image site map (Some r) f h =
    let go : (t : Bool) → (if t then Some r.paddr else None) ≡ in_container site.blocks r.paddr → option_map (standing image site (OfRecord map r)) (if t then Some r.paddr else None) ≡ Some f → IsRecordedBy image site map (Some r) f =
    λ t. elim t as (λ t. (if t then Some r.paddr else None) ≡ in_container site.blocks r.paddr → option_map (standing image site (OfRecord map r)) (if t then Some r.paddr else None) ≡ Some f → IsRecordedBy image site map (Some r) f) [
      | true ↦ λ s e. let z : ◌≡◌ {A = Option Found} (Some (standing image site (OfRecord map r) r.paddr)) (Some f) = e in record { mapping = r; some = refl; inside = sym s; same = cc }
      | false ↦ λ s e. absurd (let z : ◌≡◌ {A = Option Found} None (Some f) = e in let q : ⊥ = cc in q)
    ] in
    go (nat_lt 0 r.paddr && nat_lt r.paddr site.blocks) refl h

slot-volume : (image : List ℕ) (seen : Seen) → IsAccounted image seen → (slot : ℕ) → slot < slots → (fs_oid_of seen.nx slot == 0) ≡ false → IsVolume image seen (fs_oid_of seen.nx slot)
unfolding resolved volume_place
slot-volume image seen w slot low some =
    let site : Site = site_of seen in
    let oid : ℕ = fs_oid_of seen.nx slot in
    let map : ℕ = omap_oid_of seen.nx in
    let n : Naming = slot_naming seen slot in
    let t = w.names.named n (slot-live image seen slot (in-range 0 slots slot (omega arith) (omega arith)) some) in
    let r = recorded-by image site map (resolved_in image site map oid seen.line.xid) t.0 t.1.names.found in
    let mapping : OmapRecord = r.mapping in
    let used : used_features site (OfRecord map mapping) ≡ [] = subst (λ (f : Found). used_features site f.object ≡ []) r.same (plain-use image seen w n t.0 t.1) in
    let sound : is_ok (tested site (VolumeIn slot) oid (super_in image site mapping.paddr)) ≡ true = subst (λ (f : Found). is_ok (tested site (VolumeIn slot) oid f.bytes) ≡ true) r.same t.1.sound in
    record {
      place = place_of mapping;
      at = ap (option_map place_of) r.some;
      inside = r.inside;
      plain = map-none (λ feature. (feature, mapping.paddr)) (mapping_features site.block_size mapping.flags mapping.size) used;
      super = sym (volume-tested image site slot oid mapping.paddr) ∙ sound;
    }

-- nothing that `heads` could name is there
pub heads-right : (image : List ℕ) (seen : Seen) → IsAccounted image seen → AreRight image seen
heads-right image seen w = record { map = plain-map image seen w; volumes = slot-volume image seen w }

pub heads-told : (image : List ℕ) (seen : Seen) → IsAccounted image seen → AreHeads image seen (heads_of image seen)
heads-told image seen w = record { right = heads-right image seen w; same = refl }

-- ---- each volume
-- the features of a volume and of its snapshots' records
head-fields : (image : List ℕ) (seen : Seen) → IsAccounted image seen → (head : VolHead) → In head (heads_of image seen) → field_features image seen (VolumeIn head.slot) head.block (super_of image (site_of seen) head) ≡ []
head-fields image seen w head one =
    let n = head-named image seen head one in
    let t = w.names.named n.naming n.live in
    let e : ◌≡◌ {A = Option Found} (Some t.0) (Some n.object) = sym t.1.names.found ∙ n.found in
    let same : t.0 ≡ n.object = cc in
    let s : NamesSound image seen n.naming n.object = subst (NamesSound image seen n.naming) same t.1 in
    let p = plain-fields image seen w n.naming n.object s in
    subst (λ b. field_features image seen (VolumeIn head.slot) head.block b ≡ []) n.bytes_are
    (subst (λ k. field_features image seen (VolumeIn head.slot) k n.object.bytes ≡ []) n.block_is
    (subst (λ x. field_features image seen x n.object.block n.object.bytes ≡ []) n.expected_is p))

-- a volume's map is named
volume-map-named : (image : List ℕ) (seen : Seen) → IsAccounted image seen → (head : VolHead) (one : In head (heads_of image seen)) → IsMapNamed image seen (Whole (head-named image seen head one).object.object) 128 (map_block_of image (site_of seen) head) VolumeMap
volume-map-named image seen w head one =
    let n = head-named image seen head one in
    let oid : ℕ = map_block_of image (site_of seen) head in
    record {
      live = volume-names image seen head n (sound-super image seen w.names.named head one) (naming (Whole n.object.object) 128 VolumeMap ByBlock oid) (inl refl);
      as_map = λ m bytes. refl;
      sound = sound-map image seen w.names.named head one;
    }

-- its snapshot metadata tree is whole
volume-metadata : (image : List ℕ) (seen : Seen) → IsAccounted image seen → (head : VolHead) → In head (heads_of image seen) → has_whole_metadata image (site_of seen) head ≡ true
unfolding has_whole_metadata
volume-metadata image seen w head one =
    let n = head-named image seen head one in
    let root : ℕ = metadata_root image (site_of seen) head in
    let me : Namer = Whole n.object.object in
    let m : Naming = naming me 152 (TreeRoot SnapMetadata) ByBlock root in
    elim (test_or (root == 0)) as (λ _. ((root == 0) || is_whole (metadata_tree image (site_of seen)) root) ≡ true) [
      | inl none ↦ left-or (root == 0) _ none
      | inr some ↦ right-or (root == 0) _ (metadata-whole image seen w root (record {
        naming = m;
        live = volume-names image seen head n (sound-super image seen w.names.named head one) m
            (in-metadata image seen head.slot me (super_of image (site_of seen) head) m (in-unless me 152 (TreeRoot SnapMetadata) ByBlock root some));
        expected_is = refl;
        how_is = refl;
        oid_is = refl;
      }))
    ]

-- a snapshot's record that is long enough has no feature
record-plain : (pair : Pair) → is_snapshot_long pair ≡ true → record_features pair ≡ [] → snapshot_record_features (snap_flags_of (bytes_in pair.value)) ≡ []
record-plain pair long e =
    let block : ℕ = snap_super_of (bytes_in pair.value) in
    let features : List Feature = snapshot_record_features (snap_flags_of (bytes_in pair.value)) in
    let s : placed_in block features ≡ [] = subst (λ b. (if b then placed_in block features else []) ≡ []) long e in
    map-none (λ feature. (feature, block)) features s

-- each snapshot's record gives a sound superblock, and neither has a feature
volume-snapshot : (image : List ℕ) (seen : Seen) → IsAccounted image seen → (head : VolHead) → In head (heads_of image seen) → (pair : Pair) → In pair (snapshot_pairs (metadata_of image (site_of seen) head)) → is_snapshot_long pair ≡ true → IsRightSnapshot image (site_of seen) pair
unfolding has_super
volume-snapshot image seen w head one pair h long =
    let site : Site = site_of seen in
    let n = head-named image seen head one in
    let oid : ℕ = snap_super_of (bytes_in pair.value) in
    let has = sound-snapshot image seen w.names.named head one pair h long in
    let rest : (is_some (in_container site.blocks oid) && is_super image site None oid) ≡ true = right-true (is_snapshot_long pair) _ has in
    let r = record-names image seen head n (sound-super image seen w.names.named head one) pair h long in
    let view : ViewAt = past_view head.slot (super_of image site head) r.0 pair in
    let live : IsLive image seen (super_naming view pair) = r.1 (super_naming view pair) (inl refl) in
    let fields : field_features image seen (SnapshotSuper view) oid (map_in image site oid) ≡ [] = map-fields image seen w (Kept view) 8 oid (SnapshotSuper view) live in
    let all = head-fields image seen w head one in
    let records : flat_map record_features (snapshot_pairs (metadata_of image site head)) ≡ [] = right-none (placed_in head.block (volume_features (super_of image site head))) _ all in
    record {
      inside = inside-itself site.blocks oid (left-true (is_some (in_container site.blocks oid)) _ rest);
      super = right-true (is_some (in_container site.blocks oid)) _ rest;
      unmarked = record-plain pair long (flat-none record_features (snapshot_pairs (metadata_of image site head)) records pair h);
      plain = map-none (λ feature. (feature, oid)) (snapshot_super_features (super_in image site oid)) fields;
    }

-- nothing that `load` could name of a volume is there
pub volume-loadable : (image : List ℕ) (seen : Seen) → IsAccounted image seen → (head : VolHead) → In head (heads_of image seen) → HasAgreement image seen head → IsLoadable image (site_of seen) head
volume-loadable image seen w head one agreed =
    let site : Site = site_of seen in
    let n = head-named image seen head one in
    let block : ℕ = map_block_of image site head in
    let bytes : List ℕ = map_in image site block in
    let named = volume-map-named image seen w head one in
    let fields : field_features image seen VolumeMap block bytes ≡ [] = map-fields image seen w (Whole n.object.object) 128 block VolumeMap named.live in
    let object : map_features bytes ++ snapshot_features (map_snapshots image site block) ≡ [] = map-none (λ feature. (feature, block)) _ fields in
    let features : List Feature = volume_features (super_of image site head) in
    record {
      plain = map-none (λ feature. (feature, head.block)) features (left-none (placed_in head.block features) _ (head-fields image seen w head one));
      map = map-whole image seen w (Whole n.object.object) 128 block VolumeMap named;
      settled = no-feature (is_reverting bytes) Revert (left-none (map_features bytes) _ object);
      unmarked = right-none (map_features bytes) _ object;
      metadata = volume-metadata image seen w head one;
      agreed = agreed;
      snapshots = λ pair h. volume-snapshot image seen w head one pair h (readable-long (metadata_of image site head) agreed.readable pair h);
    }

pub volume-loaded : (image : List ℕ) (seen : Seen) → IsAccounted image seen → (head : VolHead) → In head (heads_of image seen) → HasAgreement image seen head → IsVolumeOf image (site_of seen) head (volume_of image seen head)
volume-loaded image seen w head one agreed = record { right = volume-loadable image seen w head one agreed; same = refl }

-- ---- what browsing needs of a container
pub browsed : (profile : Profile) (image : List ℕ) (w : IsWellFormed profile image) → IsBrowsable profile image w.seen × IsAccounted image w.seen
browsed profile image w = (
  record {
    newest = w.newest;
    plain = w.right.accounted.plain.first;
    heads = heads-told image w.seen w.right.accounted;
    volumes = λ head one. volume-loaded image w.seen w.right.accounted head one (w.right.volumes head one).agreed;
    views = λ head one. (w.right.volumes head one).views;
  },
  w.right.accounted,
)

-- ---- what a check has found right is well-formed
pub composed : (profile : Profile) (image : List ℕ) (seen : Seen) → newest_of image ≡ Ok seen → IsAccounted image seen → ((head : VolHead) → In head (heads_of image seen) → IsLoadable image (site_of seen) head) →
    ((head : VolHead) → In head (heads_of image seen) → (view : View) → In view (views_of (volume_of image seen head) seen) → HasViewRules profile image seen head view) →
    ((head : VolHead) → In head (heads_of image seen) → profile ≡ Strict → HasRightData image seen head) → IsWellFormed profile image
composed profile image seen e accounted loadable views right = record {
  seen = seen;
  newest = e;
  right = record { accounted = accounted; volumes = λ head one. record { agreed = (loadable head one).agreed; views = views head one; ranges = right head one } };
}
