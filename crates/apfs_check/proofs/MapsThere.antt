-- What is told of object maps, and of superblocks by their headers, is present in the container.
use Rattle.std.proofs.Common.{◌≡◌, ℕ, Bool, true, false, List, [], ◌++◌, Option, Some, None, Result, Ok, Err, is_ok, inl, inr, refl, ap, sym, ◌∙◌, subst, if◌then◌else◌}
use Rattle.std.specs.Prelude.{option_map, is_some}
use Rattle.apfs_model.specs.Blocks.{block_of, in_container}
use Rattle.apfs_model.specs.Lists.{In, through}
use Rattle.apfs_model.specs.Object.{map_kind, volume_kind}
use Rattle.obj_base.specs.declared.header.Header.{Header}
use Rattle.obj_base.specs.declared.header.HeadFault.{HeadFault}
use Rattle.obj_base.specs.declared.stop.Bad.{Bad}
use Rattle.obj_base.specs.declared.stop.Bad.TheVariants as bads
use Rattle.obj_base.specs.declared.stop.Feature.{Feature}
use Rattle.obj_base.specs.declared.stop.Stop.TheVariants as stops
use Rattle.obj_base.specs.declared.stop.Within.TheVariants.{Physical}
use Rattle.bt_node.specs.declared.fault.NodeFault.TheVariants as nodes
use Rattle.obj_base.specs.declared.site.Site.{Site}
use Rattle.bt_keys.specs.Shapes.{omap_shape, omap_snap_shape}
use Rattle.bt_cursor.specs.declared.fault.WalkFault.{WalkFault}
use Rattle.bt_cursor.specs.Faults.{IsWalkFault}
use Rattle.nx_ring.specs.Checkpoint.{Seen, site_of}
use Rattle.nx_ring.specs.Newest.{newest_of}
use Rattle.omap_map.specs.Fields.{tree_of, snap_tree_of}
use Rattle.omap_map.specs.Features.{map_features}
use Rattle.omap_map.specs.Maps.{map_in, head_of, record_tree, snapshot_tree, has_no_snapshots, is_map_object, IsMapFault, IsMapFeature}
use Rattle.omap_map.specs.declared.fault.OmapFault.{OmapFault}
use Rattle.omap_map.specs.declared.fault.OmapFault.TheVariants as maps
use Rattle.vol_view.specs.Heads.{super_in, super_test, has_magic, is_super}
use Rattle.vol_view.specs.SnapRecords.{metadata_tree}
use Rattle.vol_view.specs.declared.stop.VolStop.TheVariants as volumes
use Rattle.reach_rules.specs.declared.fault.Why.{Why}
use Rattle.reach_rules.specs.declared.fault.Why.TheVariants.{Node, Magic}
use Rattle.reach_rules.specs.declared.naming.LookUp.TheVariants.{ByBlock}
use Rattle.reach_rules.specs.declared.naming.Object.TheVariants.{InBlock}
use Rattle.reach_rules.specs.declared.naming.Namer.{Namer}
use Rattle.reach_rules.specs.declared.naming.Namer.TheVariants.{Whole}
use Rattle.reach_rules.specs.declared.naming.TreeKind.TheVariants.{MapRecords, MapSnapshots, SnapMetadata}
use Rattle.reach_rules.specs.declared.naming.Expected.{Expected}
use Rattle.reach_rules.specs.declared.naming.Expected.TheVariants.{TreeRoot}
use Rattle.reach_rules.specs.declared.naming.Naming.{Naming}
use Rattle.reach_rules.specs.Naming.{naming}
use Rattle.reach_rules.specs.Resolved.{Found, resolved, standing}
use Rattle.reach_rules.specs.Tested.{Answer, of_header, with_magic, head_tested, tested}
use Rattle.reach_rules.specs.Next.{names, map_namings}
use Rattle.reach_rules.specs.Live.{IsLive, led}
use Rattle.reach_rules.specs.Features.{HasFeature, of, placed_in, used_features, tested_features, field_features, features_through}
use Rattle.reach_rules.specs.Faults.{IsUnsound, IsUnnamed}
use Rattle.apfs_model.proofs.BoolTests.{left-true, right-true}
use Rattle.apfs_model.proofs.Searches.{in-map}
use Rattle.reach_rules.proofs.Nexts.{in-next, in-unless}
use Rattle.view_rules.specs.declared.profile.Profile.{Profile}
use Rattle.apfs_check.specs.Present.{IsPresent}
use Rattle.apfs_check.specs.Raised.{of_map, of_volume}
use Rattle.apfs_model.proofs.Inside.{inside-itself}
use Rattle.reach_rules.proofs.Walks.{IsRootNaming, gap-told}
use Rattle.reach_rules.proofs.Looks.{records-walk, snapshots-walk}
use Rattle.reach_rules.proofs.TreesLifted.{records-present, snapshots-present, metadata-present}
use Rattle.apfs_check.proofs.There.{walk-there}

-- ---- tests of headers
pub header-fails : (bytes : List ℕ) (why : HeadFault) (r : Result Header (Bad HeadFault)) → r ≡ Err (bads.Found why) → of_header bytes r ≡ Err (bads.Found (Node (nodes.Head why)))
header-fails bytes why r e = ap (of_header bytes) e

pub header-passes : (bytes : List ℕ) (r : Result Header (Bad HeadFault)) → is_ok r ≡ true → of_header bytes r ≡ Ok bytes
header-passes bytes (Ok h) e = refl
header-passes bytes (Err bad) e = absurd (let z : false ≡ true = e in let q : ⊥ = cc in q)

pub lacks-magic : (magic : List ℕ → Bool) (bytes : List ℕ) (a : Answer) → a ≡ Ok bytes → magic bytes ≡ false → with_magic magic a ≡ Err (bads.Found Magic)
lacks-magic magic bytes a e m = ap (with_magic magic) e ∙ ap (λ b. if b then Ok bytes else Err (bads.Found Magic)) m

-- the first test of a superblock that fails, by its header or its magic
pub super-fails : (image : List ℕ) (site : Site) (oid : Option ℕ) (block : ℕ) (why : HeadFault) → super_test image site oid block ≡ Err (bads.Found why) → with_magic has_magic (head_tested site volume_kind oid (super_in image site block)) ≡ Err (bads.Found (Node (nodes.Head why)))
super-fails image site oid block why e = ap (with_magic has_magic) (header-fails (super_in image site block) why (super_test image site oid block) e)

pub super-lacks : (image : List ℕ) (site : Site) (oid : Option ℕ) (block : ℕ) → is_ok (super_test image site oid block) ≡ true → has_magic (super_in image site block) ≡ false → with_magic has_magic (head_tested site volume_kind oid (super_in image site block)) ≡ Err (bads.Found Magic)
super-lacks image site oid block ok m = lacks-magic has_magic (super_in image site block) _ (header-passes (super_in image site block) (super_test image site oid block) ok) m

pub super-refuses : (image : List ℕ) (site : Site) (oid : Option ℕ) (block : ℕ) (feature : Feature) → super_test image site oid block ≡ Err (bads.Unsupported feature) → with_magic has_magic (head_tested site volume_kind oid (super_in image site block)) ≡ Err (bads.Unsupported feature)
super-refuses image site oid block feature e = ap (λ r. with_magic has_magic (of_header (super_in image site block) r)) e

pub super-passes : (image : List ℕ) (site : Site) (oid : Option ℕ) (block : ℕ) → is_super image site oid block ≡ true → with_magic has_magic (head_tested site volume_kind oid (super_in image site block)) ≡ Ok (super_in image site block)
unfolding is_super
super-passes image site oid block e =
    ap (with_magic has_magic) (header-passes (super_in image site block) (super_test image site oid block) (left-true (is_ok (super_test image site oid block)) _ e))
    ∙ ap (λ b. if b then Ok (super_in image site block) else Err (bads.Found Magic)) (right-true (is_ok (super_test image site oid block)) _ e)

-- ---- features
pub feature-of : (image : List ℕ) (seen : Seen) (n : Naming) (f : Found) (a : Answer) (feature : Feature) (block : ℕ) → IsLive image seen n → resolved image seen n ≡ Some f → tested (site_of seen) n.expected n.oid f.bytes ≡ a →
    In (feature, block) (used_features (site_of seen) f.object ++ tested_features image seen n.expected f a) → HasFeature image seen feature block
unfolding features_through
feature-of image seen n f a feature block live e t h =
    of n live (subst (λ o. In (feature, block) (through o (λ (g : Found). used_features (site_of seen) g.object ++ tested_features image seen n.expected g (tested (site_of seen) n.expected n.oid g.bytes)))) (sym e)
    (subst (λ x. In (feature, block) (used_features (site_of seen) f.object ++ tested_features image seen n.expected f x)) (sym t) h))

pub in-placed : (feature : Feature) (block : ℕ) (features : List Feature) → In feature features → In (feature, block) (placed_in block features)
in-placed feature block features h = in-map (λ f. (f, block)) features feature h

-- ---- what is found by a block
pub physical-found : (image : List ℕ) (seen : Seen) (namer : Namer) (at : ℕ) (e : Expected) (oid : ℕ) → in_container (site_of seen).blocks oid ≡ Some oid → resolved image seen (naming namer at e ByBlock oid) ≡ Some (standing image (site_of seen) (InBlock oid) oid)
unfolding resolved
physical-found image seen namer at e oid i = ap (option_map (λ block. standing image (site_of seen) (InBlock block) block)) i

pub physical-lost : (image : List ℕ) (seen : Seen) (namer : Namer) (at : ℕ) (e : Expected) (oid : ℕ) → in_container (site_of seen).blocks oid ≡ None → resolved image seen (naming namer at e ByBlock oid) ≡ None
unfolding resolved
physical-lost image seen namer at e oid i = ap (option_map (λ block. standing image (site_of seen) (InBlock block) block)) i

pub physical-unnamed : (image : List ℕ) (seen : Seen) (namer : Namer) (at : ℕ) (e : Expected) (oid : ℕ) → IsLive image seen (naming namer at e ByBlock oid) → in_container (site_of seen).blocks oid ≡ None → IsUnnamed image seen Physical oid seen.line.xid
physical-unnamed image seen namer at e oid live i = record {
  naming = naming namer at e ByBlock oid;
  live = live;
  lost = physical-lost image seen namer at e oid i;
  shown = record { within_is = refl; oid_is = refl; xid_is = refl };
}

pub physical-unsound : (image : List ℕ) (seen : Seen) (namer : Namer) (at : ℕ) (e : Expected) (oid : ℕ) (why : Why) → IsLive image seen (naming namer at e ByBlock oid) → in_container (site_of seen).blocks oid ≡ Some oid → tested (site_of seen) e oid (block_of (site_of seen).block_size image oid) ≡ Err (bads.Found why) → IsUnsound image seen oid why
physical-unsound image seen namer at e oid why live i t = record {
  naming = naming namer at e ByBlock oid;
  object = standing image (site_of seen) (InBlock oid) oid;
  names = record { live = live; found = physical-found image seen namer at e oid i };
  at = refl;
  fails = t;
}

pub physical-feature : (image : List ℕ) (seen : Seen) (namer : Namer) (at : ℕ) (e : Expected) (oid : ℕ) (a : Answer) (feature : Feature) (block : ℕ) → IsLive image seen (naming namer at e ByBlock oid) → in_container (site_of seen).blocks oid ≡ Some oid → tested (site_of seen) e oid (block_of (site_of seen).block_size image oid) ≡ a →
    In (feature, block) (tested_features image seen e (standing image (site_of seen) (InBlock oid) oid) a) → HasFeature image seen feature block
physical-feature image seen namer at e oid a feature block live i t h =
    feature-of image seen (naming namer at e ByBlock oid) (standing image (site_of seen) (InBlock oid) oid) a feature block live (physical-found image seen namer at e oid i) t h

-- ---- object maps
-- a live naming of an object map
pub record IsMapNaming (image : List ℕ) (seen : Seen) (namer : Namer) (at oid : ℕ) (e : Expected) : Type 0 where
  pub live : IsLive image seen (naming namer at e ByBlock oid)
  pub as_map : (n : Namer) (bytes : List ℕ) → names image seen ByBlock e n bytes ≡ map_namings n bytes
  pub as_test : (bytes : List ℕ) → tested (site_of seen) e oid bytes ≡ head_tested (site_of seen) map_kind (Some oid) bytes

-- a sound map passes its tests
pub map-passes : (image : List ℕ) (seen : Seen) (namer : Namer) (at oid : ℕ) (e : Expected) → IsMapNaming image seen namer at oid e → is_map_object image (site_of seen) oid ≡ true → tested (site_of seen) e oid (map_in image (site_of seen) oid) ≡ Ok (map_in image (site_of seen) oid)
unfolding is_map_object
map-passes image seen namer at oid e n ok =
    n.as_test (map_in image (site_of seen) oid) ∙ header-passes (map_in image (site_of seen) oid) (head_of image (site_of seen) oid) (right-true (is_some (in_container (site_of seen).blocks oid)) _ ok)

pub map-inside : (image : List ℕ) (site : Site) (oid : ℕ) → is_map_object image site oid ≡ true → in_container site.blocks oid ≡ Some oid
unfolding is_map_object
map-inside image site oid ok = inside-itself site.blocks oid (left-true (is_some (in_container site.blocks oid)) _ ok)

pub map-names : (image : List ℕ) (seen : Seen) (namer : Namer) (at oid : ℕ) (e : Expected) → IsMapNaming image seen namer at oid e → is_map_object image (site_of seen) oid ≡ true → (m : Naming) → In m (map_namings (Whole (InBlock oid)) (map_in image (site_of seen) oid)) → IsLive image seen m
map-names image seen namer at oid e n ok m h =
    let s : Naming = naming namer at e ByBlock oid in
    let f : Found = standing image (site_of seen) (InBlock oid) oid in
    let sound : is_ok (tested (site_of seen) e oid f.bytes) ≡ true = ap (λ (a : Answer). is_ok a) (map-passes image seen namer at oid e n ok) in
    led s m n.live (in-next image seen s m (record {
      object = f;
      found = physical-found image seen namer at e oid (map-inside image (site_of seen) oid ok);
      sound = sound;
      names = subst (λ xs. In m xs) (sym (n.as_map (Whole (InBlock oid)) f.bytes)) h;
    }))

pub records-root : (image : List ℕ) (seen : Seen) (namer : Namer) (at oid : ℕ) (e : Expected) → IsMapNaming image seen namer at oid e → is_map_object image (site_of seen) oid ≡ true → IsRootNaming image seen MapRecords ByBlock (tree_of (map_in image (site_of seen) oid))
records-root image seen namer at oid e n ok =
    let root : Naming = naming (Whole (InBlock oid)) 48 (TreeRoot MapRecords) ByBlock (tree_of (map_in image (site_of seen) oid)) in
    record { naming = root; live = map-names image seen namer at oid e n ok root (inl refl); expected_is = refl; how_is = refl; oid_is = refl }

pub snapshots-root : (image : List ℕ) (seen : Seen) (namer : Namer) (at oid : ℕ) (e : Expected) → IsMapNaming image seen namer at oid e → is_map_object image (site_of seen) oid ≡ true → has_no_snapshots (map_in image (site_of seen) oid) ≡ false → IsRootNaming image seen MapSnapshots ByBlock (snap_tree_of (map_in image (site_of seen) oid))
snapshots-root image seen namer at oid e n ok some =
    let root : Naming = naming (Whole (InBlock oid)) 56 (TreeRoot MapSnapshots) ByBlock (snap_tree_of (map_in image (site_of seen) oid)) in
    record { naming = root; live = map-names image seen namer at oid e n ok root (inr (in-unless (Whole (InBlock oid)) 56 (TreeRoot MapSnapshots) ByBlock _ some)); expected_is = refl; how_is = refl; oid_is = refl }

pub records-there : (profile : Profile) (image : List ℕ) (seen : Seen) → newest_of image ≡ Ok seen → (root : ℕ) → IsRootNaming image seen MapRecords ByBlock root → (why : WalkFault) → IsWalkFault (record_tree image (site_of seen)) root why → IsPresent profile image (of_map seen.line.xid (maps.Tree root why))
records-there profile image seen e root r why there = walk-there profile image seen e Physical seen.line.xid root why (records-present image seen root r why there)

pub snapshots-there : (profile : Profile) (image : List ℕ) (seen : Seen) → newest_of image ≡ Ok seen → (root : ℕ) → IsRootNaming image seen MapSnapshots ByBlock root → (why : WalkFault) → IsWalkFault (snapshot_tree image (site_of seen)) root why → IsPresent profile image (of_map seen.line.xid (maps.Tree root why))
snapshots-there profile image seen e root r why there = walk-there profile image seen e Physical seen.line.xid root why (snapshots-present image seen root r why there)

pub metadata-there : (profile : Profile) (image : List ℕ) (seen : Seen) → newest_of image ≡ Ok seen → (root : ℕ) → IsRootNaming image seen SnapMetadata ByBlock root → (why : WalkFault) → IsWalkFault (metadata_tree image (site_of seen)) root why → IsPresent profile image (of_volume seen.line.xid (volumes.Walk root why))
metadata-there profile image seen e root r why there = walk-there profile image seen e Physical seen.line.xid root why (metadata-present image seen root r why there)

-- a fault of a map that is named is present
pub map-there : (profile : Profile) (image : List ℕ) (seen : Seen) → newest_of image ≡ Ok seen → (namer : Namer) (at oid : ℕ) (e : Expected) → IsMapNaming image seen namer at oid e → (fault : OmapFault) → IsMapFault image (site_of seen) oid fault → IsPresent profile image (of_map seen.line.xid fault)
map-there profile image seen new namer at oid e n (maps.Head block why) (same, i, t) =
    subst (λ b. IsPresent profile image (of_map seen.line.xid (maps.Head b why))) (sym same) (record {
      seen = seen;
      newest = new;
      fact =
          physical-unsound image seen namer at e oid (Node (nodes.Head why)) n.live i (n.as_test (map_in image (site_of seen) oid) ∙ header-fails (map_in image (site_of seen) oid) why (head_of image (site_of seen) oid) t);
    })
map-there profile image seen new namer at oid e n (maps.Tree root why) (ok, inl (same, there)) =
    let root-is = tree_of (map_in image (site_of seen) oid) in
    subst (λ r. IsPresent profile image (of_map seen.line.xid (maps.Tree r why))) (sym same)
    (records-there profile image seen new root-is (records-root image seen namer at oid e n ok) why there)
map-there profile image seen new namer at oid e n (maps.Tree root why) (ok, inr (some, (same, there))) =
    let root-is = snap_tree_of (map_in image (site_of seen) oid) in
    subst (λ r. IsPresent profile image (of_map seen.line.xid (maps.Tree r why))) (sym same)
    (snapshots-there profile image seen new root-is (snapshots-root image seen namer at oid e n ok some) why there)

-- and a feature of it
pub map-feature : (image : List ℕ) (seen : Seen) (namer : Namer) (at oid : ℕ) (e : Expected) → IsMapNaming image seen namer at oid e → ((features : List Feature) → (feature : Feature) → In feature (map_features (map_in image (site_of seen) oid)) → In (feature, oid) (field_features image seen e oid (map_in image (site_of seen) oid))) →
    (feature : Feature) (block : ℕ) → IsMapFeature image (site_of seen) oid feature block → HasFeature image seen feature block
map-feature image seen namer at oid e n fields feature block (inl (same, i, t)) =
    subst (HasFeature image seen feature) (sym same) (physical-feature image seen namer at e oid (Err (bads.Unsupported feature)) feature oid n.live i
    (n.as_test (map_in image (site_of seen) oid) ∙ ap (of_header (map_in image (site_of seen) oid)) t) (inl refl))
map-feature image seen namer at oid e n fields feature block (inr (ok, inl (same, h))) =
    subst (HasFeature image seen feature) (sym same) (physical-feature image seen namer at e oid (Ok (map_in image (site_of seen) oid)) feature oid n.live (map-inside image (site_of seen) oid ok)
    (map-passes image seen namer at oid e n ok) (fields [] feature h))
map-feature image seen namer at oid e n fields feature block (inr (ok, inr (inl gap))) =
    gap-told image seen MapRecords ByBlock omap_shape (in_container (site_of seen).blocks) (records-walk image seen) _ (records-root image seen namer at oid e n ok) (stops.Unsupported feature block) gap
map-feature image seen namer at oid e n fields feature block (inr (ok, inr (inr (some, gap)))) =
    gap-told image seen MapSnapshots ByBlock omap_snap_shape (in_container (site_of seen).blocks) (snapshots-walk image seen) _ (snapshots-root image seen namer at oid e n ok some) (stops.Unsupported feature block) gap
