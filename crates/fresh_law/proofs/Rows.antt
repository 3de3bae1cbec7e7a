-- Each naming finds its object, which is sound, and leads to its namings.
use Rattle.std.proofs.Common.{arith, ◌≡◌, ℕ, zero, suc, ◌+◌, ◌-◌, ◌*◌, ◌<◌, ◌≤◌, Bool, true, false, ◌==◌, List, [], ◌∷◌, ◌++◌, length, map, Some, None, Result, Ok, Err, is_ok, inl, inr, refl, ap, ◌∙◌, subst, if◌then◌else◌}
use Rattle.std.specs.Prelude.{option_map, option_and_then, flat_map}
use Rattle.std.specs.List.{range_with_len}
use Rattle.apfs_model.specs.Blocks.{in_container}
use Rattle.apfs_model.specs.Lists.{In, through}
use Rattle.apfs_model.specs.Object.{space_kind, cib_kind, map_kind, volume_kind, reaper_kind}
use Rattle.apfs_model.specs.Bytes.{u64_at}
use Rattle.apfs_model.proofs.Empty.{none-flat}
use Rattle.apfs_model.proofs.BoolTests.{from-range}
use Rattle.obj_base.specs.declared.header.Header.{Header}
use Rattle.obj_base.specs.declared.header.HeadFault.{HeadFault}
use Rattle.obj_base.specs.declared.stop.Bad.{Bad}
use Rattle.obj_base.specs.declared.stop.Bad.TheVariants.{Found as Fails}
use Rattle.obj_base.specs.declared.site.Site.{Site}
use Rattle.bt_node.specs.Shape.{Shape}
use Rattle.bt_node.specs.Soundness.{node_of}
use Rattle.bt_cursor.specs.Tree.{root_place}
use Rattle.nx_block.specs.Super.{fs_oid_of, space_oid_of, omap_oid_of, reaper_oid_of, jumpstart_of}
use Rattle.nx_ring.specs.Checkpoint.{site_of, eph}
use Rattle.omap_map.specs.Maps.{resolved_in}
use Rattle.vol_view.specs.Heads.{has_magic}
use Rattle.vol_view.specs.Fields as volumes
use Rattle.vol_view.specs.SnapRecords.{metadata_tree, metadata_pairs}
use Rattle.space_map.specs.Geometry.{has_address}
use Rattle.space_map.specs.Blocks.{address_at}
use Rattle.space_pool.specs.Queues.{one_block}
use Rattle.reach_rules.specs.declared.naming.LookUp.{LookUp}
use Rattle.reach_rules.specs.declared.naming.LookUp.TheVariants.{ByBlock, ByMapping, InContainer, InView}
use Rattle.reach_rules.specs.declared.naming.Object.{Object}
use Rattle.reach_rules.specs.declared.naming.Object.TheVariants.{InBlock, OfId, OfRecord}
use Rattle.reach_rules.specs.declared.naming.Namer.{Namer}
use Rattle.reach_rules.specs.declared.naming.Namer.TheVariants.{Whole}
use Rattle.reach_rules.specs.declared.naming.TreeKind.{TreeKind}
use Rattle.reach_rules.specs.declared.naming.TreeKind.TheVariants.{MapRecords, ExtentRefs, SnapMetadata, FreeQueue, Files}
use Rattle.reach_rules.specs.declared.naming.Expected.{Expected}
use Rattle.reach_rules.specs.declared.naming.Expected.TheVariants.{SpaceManager, ContainerMap, ReaperObject, Jumpstart, VolumeIn, VolumeMap, InfoBlock, TreeRoot}
use Rattle.reach_rules.specs.declared.naming.Naming.{Naming}
use Rattle.reach_rules.specs.Naming.{naming}
use Rattle.reach_rules.specs.Resolved.{Found, standing, found_physical, found_virtual, recorded, mapped, mapped_node, resolved}
use Rattle.reach_rules.specs.declared.fault.Why.TheVariants.{Magic}
use Rattle.reach_rules.specs.Tested.{Answer, of_header, of_node, node_answer, with_magic, tested}
use Rattle.reach_rules.proofs.Nexts.{Each}
use Rattle.bt_keys.specs.Shapes.{omap_shape, queue_shape, ext_shape, snap_shape, fs_shape}
use Rattle.bt_cursor.specs.Flat.{flat_of}
use Rattle.space_pool.specs.declared.entry.Queue.TheVariants.{Pool, Main}
use Rattle.reach_rules.specs.Next.{unless_zero, children_in, slot_namings, roots, node_namings, names, names_if, next}
use Rattle.img_format.specs.declared.spec.Spec.{Spec}
use Rattle.img_format.specs.Valid.{IsValid}
use Rattle.fresh_law.specs.Site.{block_at, site}
use Rattle.fresh_law.specs.Checkpoint.{place, seen}
use Rattle.fresh_law.specs.Facts.{IsRootLeaf, IsManager, IsFresh}
use Rattle.fresh_law.proofs.Heads.{head-sound}
use Rattle.fresh_law.proofs.Leaves.{leaf-flat}
use Rattle.fresh_law.proofs.Sites.{site-is, inside}
use Rattle.fresh_law.proofs.Maps.{leaf-in, container-map, volume-map}
use Rattle.fresh_law.proofs.Roots as known

-- a row's naming finds its object, which is sound, and names these
pub record IsRow (image : List ℕ) (r : known.Row) : Type 0 where
  pub named : resolved image (seen image) r.naming ≡ Some (known.found image r)
  pub sound : tested (site_of (seen image)) r.naming.expected r.naming.oid (block_at image r.block) ≡ Ok (block_at image r.block)
  pub leads : names image (seen image) r.naming.how r.naming.expected (Whole r.object) (block_at image r.block) ≡ r.children

-- so what it leads to is known
pub next-is : (image : List ℕ) (r : known.Row) → IsRow image r → next image (seen image) r.naming ≡ r.children
unfolding next
next-is image r i =
    let n = r.naming in
    ap (λ o. through o (λ (f : Found). names_if image (seen image) n f (tested (site_of (seen image)) n.expected n.oid f.bytes))) i.named
    ∙ ap (λ a. names_if image (seen image) n (known.found image r) a) i.sound
    ∙ i.leads

-- ---- what is found
-- an object with its bytes in a block
abbrev one : Object → List ℕ → ℕ → Found
one object bytes b = record { object = object; block = b; bytes = bytes }

physical-is : (spec : Spec) (image : List ℕ) → IsValid spec → IsFresh spec image → (namer : Namer) (at : ℕ) (e : Expected) (k : ℕ) → 0 < k → k < 57 →
    resolved image (seen image) (naming namer at e ByBlock k) ≡ Some (record { object = InBlock k; block = k; bytes = block_at image k })
unfolding resolved
physical-is spec image v f namer at e k some low =
    ap (λ s. found_physical image s k) (site-is spec image f)
    ∙ ap (λ o. option_map (λ b. standing image (site spec) (InBlock b) b) o) (inside spec v k some low)

manager-found : (spec : Spec) (image : List ℕ) → IsValid spec → IsFresh spec image → resolved image (seen image) known.to_manager ≡ Some (known.found image known.manager_row)
unfolding resolved eph
manager-found spec image v f =
    ap (λ s. mapped s 1024 (place image 1024 9)) (site-is spec image f)
    ∙ ap (option_map (one (OfId 1024) (block_at image 9))) (inside spec v 9 (omega arith) (omega arith))

reaper-found : (spec : Spec) (image : List ℕ) → IsValid spec → IsFresh spec image → resolved image (seen image) known.to_reaper ≡ Some (known.found image known.reaper_row)
unfolding resolved eph
reaper-found spec image v f =
    ap (λ s. mapped s 1025 (place image 1025 10)) (site-is spec image f)
    ∙ ap (option_map (one (OfId 1025) (block_at image 10))) (inside spec v 10 (omega arith) (omega arith))

pub one-block : (spec : Spec) (image : List ℕ) → IsValid spec → (oid k : ℕ) → length (block_at image k) ≡ 4096 → 0 < k → k < 57 → one_block (site spec) (place image oid k) ≡ Some k
one-block spec image v oid k long some low = ap (λ n. if n == 4096 then in_container spec.blocks k else None) long ∙ inside spec v k some low

pool_queue-found : (spec : Spec) (image : List ℕ) → IsValid spec → IsFresh spec image → resolved image (seen image) known.to_pool_queue ≡ Some (known.found image known.pool_queue_row)
unfolding resolved eph
pool_queue-found spec image v f =
    ap (λ s. mapped_node image s 1029 (place image 1029 11)) (site-is spec image f)
    ∙ ap (option_map (standing image (site spec) (OfId 1029))) (one-block spec image v 1029 11 f.pool_queue.long (omega arith) (omega arith))

main_queue-found : (spec : Spec) (image : List ℕ) → IsValid spec → IsFresh spec image → resolved image (seen image) known.to_main_queue ≡ Some (known.found image known.main_queue_row)
unfolding resolved eph
main_queue-found spec image v f =
    ap (λ s. mapped_node image s 1030 (place image 1030 12)) (site-is spec image f)
    ∙ ap (option_map (standing image (site spec) (OfId 1030))) (one-block spec image v 1030 12 f.main_queue.long (omega arith) (omega arith))

virtual-is : (spec : Spec) (image : List ℕ) → IsValid spec → IsFresh spec image → (map oid k : ℕ) → 0 < k → k < 57 → resolved_in image (site spec) map oid 1 ≡ Some (known.mapped oid k) →
    found_virtual image (site_of (seen image)) map 1 oid ≡ Some (record { object = OfRecord map (known.mapped oid k); block = k; bytes = block_at image k })
virtual-is spec image v f map oid k some low r =
    ap (λ s. found_virtual image s map 1 oid) (site-is spec image f)
    ∙ ap (option_and_then (recorded image (site spec) map)) r
    ∙ ap (option_map (standing image (site spec) (OfRecord map (known.mapped oid k)))) (inside spec v k some low)

volume-found : (spec : Spec) (image : List ℕ) → IsValid spec → IsFresh spec image → resolved image (seen image) known.to_volume ≡ Some (known.found image known.volume_row)
unfolding resolved
volume-found spec image v f =
    ap (λ m. found_virtual image (site_of (seen image)) m 1 1026) f.newest.omap
    ∙ virtual-is spec image v f 25 1026 51 (omega arith) (omega arith) (container-map spec image v f).resolved

files-found : (spec : Spec) (image : List ℕ) → IsValid spec → IsFresh spec image → resolved image (seen image) known.to_files ≡ Some (known.found image known.files_row)
unfolding resolved
files-found spec image v f = virtual-is spec image v f 52 1028 54 (omega arith) (omega arith) (volume-map spec image v f).resolved

-- ---- what is sound
ok-answer : (bytes : List ℕ) (r : Result Header (Bad HeadFault)) → is_ok r ≡ true → of_header bytes r ≡ Ok bytes
ok-answer bytes (Ok h) e = refl
ok-answer bytes (Err bad) e = absurd (let z : false ≡ true = e in let q : ⊥ = cc in q)

manager-sound : (spec : Spec) (image : List ℕ) → IsFresh spec image → tested (site_of (seen image)) SpaceManager 1024 (block_at image 9) ≡ Ok (block_at image 9)
unfolding tested site_of
manager-sound spec image f = ok-answer (block_at image 9) _ (head-sound 1024 0x80000005 0 space_kind 1 (block_at image 9) f.manager.head refl refl refl (omega arith))

map-sound : (spec : Spec) (image : List ℕ) → IsFresh spec image → tested (site_of (seen image)) ContainerMap 25 (block_at image 25) ≡ Ok (block_at image 25)
unfolding tested site_of
map-sound spec image f = ok-answer (block_at image 25) _ (head-sound 25 0x4000000b 0 map_kind 1 (block_at image 25) f.container_map.head refl refl refl (omega arith))

reaper-sound : (spec : Spec) (image : List ℕ) → IsFresh spec image → tested (site_of (seen image)) ReaperObject 1025 (block_at image 10) ≡ Ok (block_at image 10)
unfolding tested site_of
reaper-sound spec image f = ok-answer (block_at image 10) _ (head-sound 1025 0x80000011 0 reaper_kind 1 (block_at image 10) f.reaper.head refl refl refl (omega arith))

info-sound : (spec : Spec) (image : List ℕ) → IsFresh spec image → tested (site_of (seen image)) (InfoBlock 0) 43 (block_at image 43) ≡ Ok (block_at image 43)
unfolding tested site_of
info-sound spec image f = ok-answer (block_at image 43) _ (head-sound 43 0x40000007 0 cib_kind 1 (block_at image 43) f.info.head refl refl refl (omega arith))

volume_map-sound : (spec : Spec) (image : List ℕ) → IsFresh spec image → tested (site_of (seen image)) VolumeMap 52 (block_at image 52) ≡ Ok (block_at image 52)
unfolding tested site_of
volume_map-sound spec image f = ok-answer (block_at image 52) _ (head-sound 52 0x4000000b 0 map_kind 1 (block_at image 52) f.volume_map.head refl refl refl (omega arith))

pub volume-magic : (spec : Spec) (image : List ℕ) → IsFresh spec image → has_magic (block_at image 51) ≡ true
volume-magic spec image f = ap (λ m. m == volumes.volume_magic) f.volume.magic

chosen : List ℕ → Bool → Answer
chosen bytes b = if b then Ok bytes else Err (Fails Magic)

volume-sound : (spec : Spec) (image : List ℕ) → IsFresh spec image → tested (site_of (seen image)) (VolumeIn 0) 1026 (block_at image 51) ≡ Ok (block_at image 51)
unfolding tested site_of chosen
volume-sound spec image f =
    ap (with_magic has_magic) (ok-answer (block_at image 51) _ (head-sound 1026 0xd 0 volume_kind 1 (block_at image 51) f.volume.head refl refl refl (omega arith)))
    ∙ ap (chosen (block_at image 51)) (volume-magic spec image f)

root-sound : {K : Type 0} (shape : Shape K) (spec : Spec) (image : List ℕ) → IsFresh spec image → (kind : TreeKind) (oid k : ℕ) (entries : List (List ℕ × List ℕ)) →
    ((s : Site) (bytes : List ℕ) → node_answer kind (root_place oid) s bytes ≡ node_of shape (root_place oid) s bytes) → IsRootLeaf shape spec oid entries (block_at image k) →
    tested (site_of (seen image)) (TreeRoot kind) oid (block_at image k) ≡ Ok (block_at image k)
unfolding tested
root-sound shape spec image f kind oid k entries same r =
    ap (λ s. of_node (node_answer kind (root_place oid) s (block_at image k))) (site-is spec image f)
    ∙ ap of_node (same (site spec) (block_at image k) ∙ r.sound)

-- ---- what is named
leaf-leads : {K : Type 0} (shape : Shape K) (spec : Spec) (image : List ℕ) (how : LookUp) (kind : TreeKind) (namer : Namer) (oid k : ℕ) (entries : List (List ℕ × List ℕ)) →
    IsRootLeaf shape spec oid entries (block_at image k) → names image (seen image) how (TreeRoot kind) namer (block_at image k) ≡ []
leaf-leads shape spec image how kind namer oid k entries r = ap (λ l. node_namings namer kind how l (children_in kind (block_at image k))) r.level

pub address-is : (spec : Spec) (bytes : List ℕ) → IsManager spec bytes → address_at bytes 0 ≡ 43
unfolding address_at
address-is spec bytes m = ap (λ a. u64_at bytes (a + 8 * 0)) m.addresses ∙ m.address

pub address-in : (spec : Spec) (bytes : List ℕ) → IsManager spec bytes → has_address bytes 0 ≡ true
unfolding has_address
address-in spec bytes m = rw (m.cabs, m.cibs, m.addresses, m.head.long)

manager-leads : (spec : Spec) (image : List ℕ) → IsFresh spec image → names image (seen image) ByMapping SpaceManager known.by_manager (block_at image 9) ≡ known.manager_row.children
manager-leads spec image f =
    let m = f.manager in
    rw (m.pool_queue, m.main_queue, m.cabs, m.cibs, address-in spec (block_at image 9) m, m.addresses, address-is spec (block_at image 9) m)

map-leads : (spec : Spec) (image : List ℕ) → IsFresh spec image → names image (seen image) ByBlock ContainerMap (known.by_block 25) (block_at image 25) ≡ known.map_row.children
map-leads spec image f = rw (f.container_map.tree_is, f.container_map.snap_tree)

volume_map-leads : (spec : Spec) (image : List ℕ) → IsFresh spec image → names image (seen image) ByBlock VolumeMap (known.by_block 52) (block_at image 52) ≡ known.volume_map_row.children
volume_map-leads spec image f = rw (f.volume_map.tree_is, f.volume_map.snap_tree)

reaper-leads : (spec : Spec) (image : List ℕ) → IsFresh spec image → names image (seen image) ByMapping ReaperObject (Whole (OfId 1025)) (block_at image 10) ≡ []
reaper-leads spec image f = rw f.reaper.first

-- the volume has no records of snapshots
pub no-metadata : (spec : Spec) (image : List ℕ) → IsValid spec → IsFresh spec image → metadata_pairs image (site spec) (volumes.snaps_root_of (block_at image 51)) ≡ []
unfolding metadata_pairs
no-metadata spec image v f =
    let i = inside spec v 56 (omega arith) (omega arith) in
    ap (λ root. if root == 0 then [] else flat_of (metadata_tree image (site spec)) root) f.volume.snaps
    ∙ leaf-flat (metadata_tree image (site spec)) 56 [] (leaf-in snap_shape spec image (in_container spec.blocks) 56 56 [] f.snapshots i i)

volume-leads : (spec : Spec) (image : List ℕ) → IsValid spec → IsFresh spec image → names image (seen image) InContainer (VolumeIn 0) known.by_volume (block_at image 51) ≡ known.volume_row.children
volume-leads spec image v f =
    let t = f.volume in
    rw (site-is spec image f, no-metadata spec image v f, t.omap, t.incompat, t.root, t.meta_ext, t.extents, t.snaps)

-- ---- the rows
abbrev pub Rows : List ℕ → Type 0
Rows image = Each (IsRow image) known.rows

pub all-rows : (spec : Spec) (image : List ℕ) → IsValid spec → IsFresh spec image → Rows image
all-rows spec image v f = (
  record { named = manager-found spec image v f; sound = manager-sound spec image f; leads = manager-leads spec image f },
  (
    record { named = physical-is spec image v f _ _ _ 25 (omega arith) (omega arith); sound = map-sound spec image f; leads = map-leads spec image f },
    (
      record { named = reaper-found spec image v f; sound = reaper-sound spec image f; leads = reaper-leads spec image f },
      (
        record { named = volume-found spec image v f; sound = volume-sound spec image f; leads = volume-leads spec image v f },
        (
          record { named = pool_queue-found spec image v f; sound = root-sound queue_shape spec image f (FreeQueue Pool) 1029 11 [] (λ s b. refl) f.pool_queue; leads = leaf-leads queue_shape spec image ByMapping (FreeQueue Pool) _ 1029 11 [] f.pool_queue },
          (
            record { named = main_queue-found spec image v f; sound = root-sound queue_shape spec image f (FreeQueue Main) 1030 12 [] (λ s b. refl) f.main_queue; leads = leaf-leads queue_shape spec image ByMapping (FreeQueue Main) _ 1030 12 [] f.main_queue },
            (
              record { named = physical-is spec image v f _ _ _ 43 (omega arith) (omega arith); sound = info-sound spec image f; leads = refl },
              (
                record { named = physical-is spec image v f _ _ _ 26 (omega arith) (omega arith); sound = root-sound omap_shape spec image f MapRecords 26 26 _ (λ s b. refl) f.container_tree; leads = leaf-leads omap_shape spec image ByBlock MapRecords _ 26 26 _ f.container_tree },
                (
                  record { named = physical-is spec image v f _ _ _ 52 (omega arith) (omega arith); sound = volume_map-sound spec image f; leads = volume_map-leads spec image f },
                  (
                    record { named = files-found spec image v f; sound = root-sound fs_shape spec image f (Files true) 1028 54 _ (λ s b. refl) f.files; leads = leaf-leads fs_shape spec image (InView known.view) (Files true) _ 1028 54 _ f.files },
                    (
                      record { named = physical-is spec image v f _ _ _ 55 (omega arith) (omega arith); sound = root-sound ext_shape spec image f ExtentRefs 55 55 [] (λ s b. refl) f.extents; leads = leaf-leads ext_shape spec image ByBlock ExtentRefs _ 55 55 [] f.extents },
                      (
                        record { named = physical-is spec image v f _ _ _ 56 (omega arith) (omega arith); sound = root-sound snap_shape spec image f SnapMetadata 56 56 [] (λ s b. refl) f.snapshots; leads = leaf-leads snap_shape spec image ByBlock SnapMetadata _ 56 56 [] f.snapshots },
                        (
                          record { named = physical-is spec image v f _ _ _ 53 (omega arith) (omega arith); sound = root-sound omap_shape spec image f MapRecords 53 53 _ (λ s b. refl) f.volume_tree; leads = leaf-leads omap_shape spec image ByBlock MapRecords _ 53 53 _ f.volume_tree },
                          tt,
                        ),
                      ),
                    ),
                  ),
                ),
              ),
            ),
          ),
        ),
      ),
    ),
  ),
)

-- ---- what the superblock names
pub later-slot : (first n k : ℕ) → In k (range_with_len first n) → first ≤ k
later-slot first zero k h = absurd h
later-slot first (suc n) k (inl e) = omega arith
later-slot first (suc n) k (inr h) = let l = later-slot (first + 1) n k h in omega arith

no-more : (spec : Spec) (image : List ℕ) → IsFresh spec image → flat_map (slot_namings (block_at image 2)) (range_with_len 1 99) ≡ []
no-more spec image f = none-flat (slot_namings (block_at image 2)) (range_with_len 1 99) (λ k h.
    let low : 1 ≤ k = later-slot 1 99 k h in
    let high : k < 100 = from-range 1 99 k h in
    let none : fs_oid_of (block_at image 2) k ≡ 0 = subst (λ j. fs_oid_of (block_at image 2) j ≡ 0) (omega arith) (f.newest.no_volume (k - 1) (omega arith)) in
    rw none)

slots-are : (spec : Spec) (image : List ℕ) → IsFresh spec image → flat_map (slot_namings (block_at image 2)) (range_with_len 0 100) ≡ known.to_volume ∷ []
slots-are spec image f =
    ap (λ oid. unless_zero known.by_super 184 (VolumeIn 0) InContainer oid ++ flat_map (slot_namings (block_at image 2)) (range_with_len 1 99)) f.newest.first_volume
    ∙ ap (λ ns. known.to_volume ∷ ns) (no-more spec image f)

-- the namings of a superblock by its fields, and by what its slots name
by-fields : ℕ → ℕ → ℕ → ℕ → List Naming → List Naming
by-fields space omap reaper jump slots =
    naming known.by_super 152 SpaceManager ByMapping space
    ∷ naming known.by_super 160 ContainerMap ByBlock omap
    ∷ unless_zero known.by_super 168 ReaperObject ByMapping reaper
    ++ (unless_zero known.by_super 1272 Jumpstart ByBlock jump ++ slots)

pub roots-are : (spec : Spec) (image : List ℕ) → IsFresh spec image → roots (block_at image 2) ≡ known.first_namings
unfolding roots by-fields
roots-are spec image f =
    let n = f.newest in
    let b = block_at image 2 in
    ap (λ ns. by-fields (space_oid_of b) (omap_oid_of b) (reaper_oid_of b) (jumpstart_of b) ns) (slots-are spec image f)
    ∙ ap (λ x. by-fields x (omap_oid_of b) (reaper_oid_of b) (jumpstart_of b) (known.to_volume ∷ [])) n.space
    ∙ ap (λ x. by-fields 1024 x (reaper_oid_of b) (jumpstart_of b) (known.to_volume ∷ [])) n.omap
    ∙ ap (λ x. by-fields 1024 25 x (jumpstart_of b) (known.to_volume ∷ [])) n.reaper
    ∙ ap (λ x. by-fields 1024 25 1025 x (known.to_volume ∷ [])) n.jumpstart
