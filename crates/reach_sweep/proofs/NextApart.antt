-- What an object names: nothing twice, and each as named by that object, or by the record of a snapshot of that volume.
use Rattle.std.proofs.Common.{◌≡◌, ℕ, zero, suc, ◌+◌, ◌*◌, ◌<◌, ◌≤◌, Bool, true, false, ◌==◌, List, [], ◌∷◌, ◌++◌, map, Option, Some, None, Ok, Err, ◌⊎◌, inl, inr, refl, ap, sym, ◌∙◌, arith, if◌then◌else◌}
use Rattle.std.specs.List.{flat_map, range_with_len}
use Rattle.apfs_model.specs.Apart.{Apart}
use Rattle.apfs_model.specs.Lists.{through}
use Rattle.apfs_model.proofs.Finite.{apart-filter, apart-range}
use Rattle.bt_node.specs.Entries.{Pair, bytes_in}
use Rattle.bt_node.specs.Node.{level_of}
use Rattle.nx_block.specs.Super.{space_oid_of, omap_oid_of, reaper_oid_of, jumpstart_of, fs_oid_of, slots}
use Rattle.nx_block.specs.Reaper.{reaper_head_of, reap_next_of}
use Rattle.nx_ring.specs.Checkpoint.{Seen, site_of}
use Rattle.omap_map.specs.Fields as maps
use Rattle.vol_view.specs.Fields as volumes
use Rattle.vol_view.specs.SnapRecords.{is_snapshot_long, snap_extents_of, snap_super_of}
use Rattle.space_map.specs.Fields.{cabs_of, cibs_of, pool_queue_of, main_queue_of}
use Rattle.space_map.specs.Geometry.{has_address}
use Rattle.space_map.specs.Blocks.{manager_of}
use Rattle.space_pool.specs.declared.entry.Queue.TheVariants.{Pool, Main}
use Rattle.reach_rules.specs.declared.naming.ViewAt.{ViewAt}
use Rattle.reach_rules.specs.declared.naming.LookUp.{LookUp}
use Rattle.reach_rules.specs.declared.naming.LookUp.TheVariants.{ByBlock, ByMapping, InContainer, InView}
use Rattle.reach_rules.specs.declared.naming.Object.{Object}
use Rattle.reach_rules.specs.declared.naming.Object.TheVariants.{Newest}
use Rattle.reach_rules.specs.declared.naming.Namer.{Namer}
use Rattle.reach_rules.specs.declared.naming.Namer.TheVariants.{Whole, Kept}
use Rattle.reach_rules.specs.declared.naming.TreeKind.{TreeKind}
use Rattle.reach_rules.specs.declared.naming.TreeKind.TheVariants.{MapRecords, MapSnapshots, ExtentRefs, SnapMetadata, FreeQueue, Files}
use Rattle.reach_rules.specs.declared.naming.Expected.{Expected}
use Rattle.reach_rules.specs.declared.naming.Expected.TheVariants.{SpaceManager, ContainerMap, ReaperObject, ReapList, Jumpstart, VolumeIn, VolumeMap, ExtendedMetadata, SnapshotSuper, AddressBlock, InfoBlock, TreeRoot, TreeNode}
use Rattle.reach_rules.specs.declared.naming.Naming.{Naming}
use Rattle.reach_rules.specs.Naming.{naming}
use Rattle.reach_rules.specs.Resolved.{Found, resolved}
use Rattle.reach_rules.specs.Tested.{Answer, tested}
use Rattle.reach_rules.specs.Next.{roots, names, names_if, next, unless_zero, slot_namings, map_namings, live_view, past_view, view_namings, record_namings, snapshot_namings, snapshots_namings, records_of_snapshots, address_naming, addresses_in, address_namings, manager_namings, is_cib_of, cib_naming, cibs_in, cab_namings, children_in, child_namings, node_namings, volume_namings}
use Rattle.reach_rules.proofs.Nexts.{Each, each-in, each-append, each-map, each-flat, each-if, each-unless, each-through}
use Rattle.reach_gather.proofs.Finishes.{apart-append, apart_map}
use Rattle.reach_sweep.proofs.Swept.{slots-apart}

-- ---- lists without repeats
apart-if : {X : Type 0} (b : Bool) (xs ys : List X) → Apart xs → Apart ys → Apart (if b then xs else ys)
apart-if true xs ys a c = a
apart-if false xs ys a c = c

apart-unless : (namer : Namer) (at : ℕ) (e : Expected) (how : LookUp) (oid : ℕ) → Apart (unless_zero namer at e how oid)
apart-unless namer at e how oid = apart-if (oid == 0) [] (naming namer at e how oid ∷ []) tt ((λ h. h), tt)

-- of two lists one holds what the other doesn't
apart-by : (P Q : Naming → Type 0) (xs ys : List Naming) → ((n : Naming) → P n → Q n → ⊥) → Apart xs → Apart ys → Each P xs → Each Q ys → Apart (xs ++ ys)
apart-by P Q xs ys parted a b p q = apart-append xs ys a b (λ n h k. parted n (each-in P xs n p h) (each-in Q ys n q k))

-- a naming by a namer of what is expected, and none of these
abbrev Is : Namer → Expected → Naming → Type 0
Is me e n = (n.namer ≡ me) × (n.expected ≡ e)

abbrev Isnt : Namer → Expected → Naming → Type 0
Isnt me e n = n.namer ≡ me → n.expected ≡ e → ⊥

apart-of : (me : Namer) (e : Expected) (xs ys : List Naming) → Apart xs → Apart ys → Each (Is me e) xs → Each (Isnt me e) ys → Apart (xs ++ ys)
apart-of me e xs ys a b p q = apart-by (Is me e) (Isnt me e) xs ys (λ n i j. j i.0 i.1) a b p q

apart-one : (me : Namer) (at : ℕ) (e : Expected) (how : LookUp) (oid : ℕ) (ys : List Naming) → Apart ys → Each (Isnt me e) ys → Apart (naming me at e how oid ∷ ys)
apart-one me at e how oid ys a q = ((λ h. each-in (Isnt me e) ys (naming me at e how oid) q h refl refl), a)

each-is : (me : Namer) (at : ℕ) (e : Expected) (how : LookUp) (oid : ℕ) → Each (Is me e) (unless_zero me at e how oid)
each-is me at e how oid = each-unless (Is me e) me at e how oid (refl, refl)

-- ---- maps, views, and nodes
map-apart : (me : Namer) (bytes : List ℕ) → Apart (map_namings me bytes)
map-apart me bytes =
    apart-one me 48 (TreeRoot MapRecords) ByBlock (maps.tree_of bytes) (unless_zero me 56 (TreeRoot MapSnapshots) ByBlock (maps.snap_tree_of bytes))
    (apart-unless me 56 (TreeRoot MapSnapshots) ByBlock (maps.snap_tree_of bytes))
    (each-unless (Isnt me (TreeRoot MapRecords)) me 56 (TreeRoot MapSnapshots) ByBlock (maps.snap_tree_of bytes) (λ s t. cc))

view-apart : (me : Namer) (view : ViewAt) (bytes : List ℕ) → Apart (view_namings me view bytes)
view-apart me view bytes =
    apart-one me 136 (TreeRoot (Files view.hashed)) (InView view) (volumes.root_oid_of bytes) (unless_zero me 1000 ExtendedMetadata (InView view) (volumes.meta_ext_of bytes))
    (apart-unless me 1000 ExtendedMetadata (InView view) (volumes.meta_ext_of bytes))
    (each-unless (Isnt me (TreeRoot (Files view.hashed))) me 1000 ExtendedMetadata (InView view) (volumes.meta_ext_of bytes) (λ s t. cc))

-- the children of a node are named from an entry on
abbrev IsFrom : ℕ → Naming → Type 0
IsFrom i n = i ≤ n.at

child-from : (me : Namer) (kind : TreeKind) (how : LookUp) (level low i : ℕ) (oids : List ℕ) → low ≤ i → Each (IsFrom low) (child_namings me kind how level i oids)
child-from me kind how level low i [] l = tt
child-from me kind how level low i (oid ∷ oids) l = (l, child-from me kind how level low (suc i) oids (omega arith))

child-apart : (me : Namer) (kind : TreeKind) (how : LookUp) (level i : ℕ) (oids : List ℕ) → Apart (child_namings me kind how level i oids)
child-apart me kind how level i [] = tt
child-apart me kind how level i (oid ∷ oids) = (
  (λ h.
      let n : Naming = naming me i (TreeNode kind level) how oid in
      let low : suc i ≤ i = each-in (IsFrom (suc i)) (child_namings me kind how level (suc i) oids) n (child-from me kind how level (suc i) (suc i) oids (omega arith)) h in
      absurd (omega arith)),
  child-apart me kind how level (suc i) oids,
)

node-apart : (me : Namer) (kind : TreeKind) (how : LookUp) (level : ℕ) (oids : List ℕ) → Apart (node_namings me kind how level oids)
node-apart me kind how zero oids = tt
node-apart me kind how (suc level) oids = child-apart me kind how level 0 oids

-- ---- snapshots
-- what holds of all that the records of a volume's snapshots name
pub each-snapshots : (P : Naming → Type 0) (slot : ℕ) (bytes : List ℕ) (i : ℕ) (pairs : List Pair)
    → ((k : ℕ) (pair : Pair) (oid : ℕ) → i ≤ k → P (naming (Kept (past_view slot bytes k pair)) 8 (SnapshotSuper (past_view slot bytes k pair)) ByBlock oid))
    → ((k : ℕ) (pair : Pair) (oid : ℕ) → i ≤ k → P (naming (Kept (past_view slot bytes k pair)) 0 (TreeRoot ExtentRefs) ByBlock oid))
    → Each P (snapshots_namings slot bytes i pairs)
each-snapshots P slot bytes i [] super extents = tt
each-snapshots P slot bytes i (pair ∷ pairs) super extents =
    let view : ViewAt = past_view slot bytes i pair in
    let value : List ℕ = bytes_in pair.value in
    each-append P (snapshot_namings slot bytes i pair) (snapshots_namings slot bytes (suc i) pairs)
    (each-if P (is_snapshot_long pair) (record_namings view value) []
    (super i pair (snap_super_of value) (omega arith), each-unless P (Kept view) 0 (TreeRoot ExtentRefs) ByBlock (snap_extents_of value) (extents i pair (snap_extents_of value) (omega arith))) tt)
    (each-snapshots P slot bytes (suc i) pairs (λ k p oid low. super k p oid (omega arith)) (λ k p oid low. extents k p oid (omega arith)))

-- the record of a snapshot of a place, and one of a later place
abbrev IsOfPlace : ℕ → Naming → Type 0
IsOfPlace place n = (view : ViewAt) × ((n.namer ≡ Kept view) × (view.place ≡ place))

abbrev IsOfLater : ℕ → Naming → Type 0
IsOfLater place n = (view : ViewAt) × ((n.namer ≡ Kept view) × (place < view.place))

places-part : (place : ℕ) (n : Naming) → IsOfPlace place n → IsOfLater place n → ⊥
places-part place n a b =
    let e : Kept a.0 ≡ Kept b.0 = sym a.1.0 ∙ b.1.0 in
    let same : a.0 ≡ b.0 = cc in
    let here : (a.0).place ≡ place = a.1.1 in
    let later : place < (b.0).place = b.1.1 in
    let one : (a.0).place ≡ (b.0).place = ap (λ (v : ViewAt). v.place) same in
    absurd (omega arith)

record-apart : (view : ViewAt) (value : List ℕ) → Apart (record_namings view value)
record-apart view value =
    apart-one (Kept view) 8 (SnapshotSuper view) ByBlock (snap_super_of value) (unless_zero (Kept view) 0 (TreeRoot ExtentRefs) ByBlock (snap_extents_of value))
    (apart-unless (Kept view) 0 (TreeRoot ExtentRefs) ByBlock (snap_extents_of value))
    (each-unless (Isnt (Kept view) (SnapshotSuper view)) (Kept view) 0 (TreeRoot ExtentRefs) ByBlock (snap_extents_of value) (λ s t. cc))

snapshots-apart : (slot : ℕ) (bytes : List ℕ) (i : ℕ) (pairs : List Pair) → Apart (snapshots_namings slot bytes i pairs)
snapshots-apart slot bytes i [] = tt
snapshots-apart slot bytes i (pair ∷ pairs) =
    let view : ViewAt = past_view slot bytes i pair in
    let value : List ℕ = bytes_in pair.value in
    apart-by (IsOfPlace (suc i)) (IsOfLater (suc i)) (snapshot_namings slot bytes i pair) (snapshots_namings slot bytes (suc i) pairs) (places-part (suc i))
    (apart-if (is_snapshot_long pair) (record_namings view value) [] (record-apart view value) tt)
    (snapshots-apart slot bytes (suc i) pairs)
    (each-if (IsOfPlace (suc i)) (is_snapshot_long pair) (record_namings view value) []
    ((view, (refl, refl)), each-unless (IsOfPlace (suc i)) (Kept view) 0 (TreeRoot ExtentRefs) ByBlock (snap_extents_of value) (view, (refl, refl))) tt)
    (each-snapshots (IsOfLater (suc i)) slot bytes (suc i) pairs (λ k p oid low. (past_view slot bytes k p, (refl, omega arith))) (λ k p oid low. (past_view slot bytes k p, (refl, omega arith))))

-- ---- a volume
-- what a volume's own fields name isn't what the records of its snapshots do
kept-isnt : (x : Object) (e : Expected) (slot : ℕ) (bytes : List ℕ) (i : ℕ) (pairs : List Pair) → Each (Isnt (Whole x) e) (snapshots_namings slot bytes i pairs)
kept-isnt x e slot bytes i pairs = each-snapshots (Isnt (Whole x) e) slot bytes i pairs (λ k p oid low s t. cc) (λ k p oid low s t. cc)

-- what holds of all that a volume names
pub each-volume : (P : Naming → Type 0) (image : List ℕ) (seen : Seen) (slot : ℕ) (me : Namer) (bytes : List ℕ)
    → P (naming me 128 VolumeMap ByBlock (volumes.omap_oid_of bytes))
    → Each P (view_namings me (live_view seen slot bytes) bytes)
    → P (naming me 144 (TreeRoot ExtentRefs) ByBlock (volumes.extents_root_of bytes))
    → P (naming me 152 (TreeRoot SnapMetadata) ByBlock (volumes.snaps_root_of bytes))
    → Each P (snapshots_namings slot bytes 0 (records_of_snapshots image (site_of seen) bytes))
    → Each P (volume_namings image seen slot me bytes)
each-volume P image seen slot me bytes omap view extents metadata snaps =
    let snap_ns : List Naming = snapshots_namings slot bytes 0 (records_of_snapshots image (site_of seen) bytes) in
    let metadata_ns : List Naming = unless_zero me 152 (TreeRoot SnapMetadata) ByBlock (volumes.snaps_root_of bytes) in
    let extent_ns : List Naming = unless_zero me 144 (TreeRoot ExtentRefs) ByBlock (volumes.extents_root_of bytes) in (
      omap,
      each-append P (view_namings me (live_view seen slot bytes) bytes) (extent_ns ++ (metadata_ns ++ snap_ns)) view
          (each-append P extent_ns (metadata_ns ++ snap_ns) (each-unless P me 144 (TreeRoot ExtentRefs) ByBlock (volumes.extents_root_of bytes) extents)
          (each-append P metadata_ns snap_ns (each-unless P me 152 (TreeRoot SnapMetadata) ByBlock (volumes.snaps_root_of bytes) metadata) snaps)),
    )

volume-apart : (image : List ℕ) (seen : Seen) (slot : ℕ) (x : Object) (bytes : List ℕ) → Apart (volume_namings image seen slot (Whole x) bytes)
volume-apart image seen slot x bytes =
    let me : Namer = Whole x in
    let view : ViewAt = live_view seen slot bytes in
    let pairs : List Pair = records_of_snapshots image (site_of seen) bytes in
    let snaps : List Naming = snapshots_namings slot bytes 0 pairs in
    let metadata : List Naming = unless_zero me 152 (TreeRoot SnapMetadata) ByBlock (volumes.snaps_root_of bytes) in
    let extents : List Naming = unless_zero me 144 (TreeRoot ExtentRefs) ByBlock (volumes.extents_root_of bytes) in
    let extended : List Naming = unless_zero me 1000 ExtendedMetadata (InView view) (volumes.meta_ext_of bytes) in
    let of_metadata : (e : Expected) → (TreeRoot SnapMetadata ≡ e → ⊥) → Each (Isnt me e) (metadata ++ snaps) = λ e d.
    each-append (Isnt me e) metadata snaps (each-unless (Isnt me e) me 152 (TreeRoot SnapMetadata) ByBlock (volumes.snaps_root_of bytes) (λ s t. d t)) (kept-isnt x e slot bytes 0 pairs) in
    let of_extents : (e : Expected) → (TreeRoot SnapMetadata ≡ e → ⊥) → (TreeRoot ExtentRefs ≡ e → ⊥) → Each (Isnt me e) (extents ++ (metadata ++ snaps)) = λ e d c.
    each-append (Isnt me e) extents (metadata ++ snaps) (each-unless (Isnt me e) me 144 (TreeRoot ExtentRefs) ByBlock (volumes.extents_root_of bytes) (λ s t. c t)) (of_metadata e d) in
    let of_extended : (e : Expected) → (TreeRoot SnapMetadata ≡ e → ⊥) → (TreeRoot ExtentRefs ≡ e → ⊥) → (ExtendedMetadata ≡ e → ⊥) → Each (Isnt me e) (extended ++ (extents ++ (metadata ++ snaps))) = λ e d c b.
    each-append (Isnt me e) extended (extents ++ (metadata ++ snaps)) (each-unless (Isnt me e) me 1000 ExtendedMetadata (InView view) (volumes.meta_ext_of bytes) (λ s t. b t)) (of_extents e d c) in
    let metadata_apart : Apart (metadata ++ snaps) =
    apart-of me (TreeRoot SnapMetadata) metadata snaps (apart-unless me 152 (TreeRoot SnapMetadata) ByBlock (volumes.snaps_root_of bytes)) (snapshots-apart slot bytes 0 pairs)
    (each-is me 152 (TreeRoot SnapMetadata) ByBlock (volumes.snaps_root_of bytes)) (kept-isnt x (TreeRoot SnapMetadata) slot bytes 0 pairs) in
    let extents_apart : Apart (extents ++ (metadata ++ snaps)) =
    apart-of me (TreeRoot ExtentRefs) extents (metadata ++ snaps) (apart-unless me 144 (TreeRoot ExtentRefs) ByBlock (volumes.extents_root_of bytes)) metadata_apart
    (each-is me 144 (TreeRoot ExtentRefs) ByBlock (volumes.extents_root_of bytes)) (of_metadata (TreeRoot ExtentRefs) (λ e. cc)) in
    let extended_apart : Apart (extended ++ (extents ++ (metadata ++ snaps))) =
    apart-of me ExtendedMetadata extended (extents ++ (metadata ++ snaps)) (apart-unless me 1000 ExtendedMetadata (InView view) (volumes.meta_ext_of bytes)) extents_apart
    (each-is me 1000 ExtendedMetadata (InView view) (volumes.meta_ext_of bytes)) (of_extents ExtendedMetadata (λ e. cc) (λ e. cc)) in
    let root : Naming = naming me 136 (TreeRoot (Files view.hashed)) (InView view) (volumes.root_oid_of bytes) in
    apart-one me 128 VolumeMap ByBlock (volumes.omap_oid_of bytes) (root ∷ extended ++ (extents ++ (metadata ++ snaps)))
    (apart-one me 136 (TreeRoot (Files view.hashed)) (InView view) (volumes.root_oid_of bytes) (extended ++ (extents ++ (metadata ++ snaps))) extended_apart
    (of_extended (TreeRoot (Files view.hashed)) (λ e. cc) (λ e. cc) (λ e. cc)))
    ((λ s t. cc), of_extended VolumeMap (λ e. cc) (λ e. cc) (λ e. cc))

-- ---- the space manager, and what tells of chunks
address-inj : (me : Namer) (manager : List ℕ) (i j : ℕ) → address_naming AddressBlock me manager i ≡ address_naming AddressBlock me manager j → i ≡ j
address-inj me manager i j e = let z : AddressBlock i ≡ AddressBlock j = ap (λ (n : Naming). n.expected) e in cc

own-inj : (me : Namer) (manager : List ℕ) (i j : ℕ) → address_naming InfoBlock me manager i ≡ address_naming InfoBlock me manager j → i ≡ j
own-inj me manager i j e = let z : InfoBlock i ≡ InfoBlock j = ap (λ (n : Naming). n.expected) e in cc

cib-inj : (me : Namer) (manager cab : List ℕ) (i j : ℕ) → cib_naming me manager cab i ≡ cib_naming me manager cab j → i ≡ j
cib-inj me manager cab i j e = let z : InfoBlock i ≡ InfoBlock j = ap (λ (n : Naming). n.expected) e in cc

address-apart : (me : Namer) (manager : List ℕ) → Apart (address_namings me manager)
address-apart me manager =
    apart-if (cabs_of manager == 0) (map (address_naming InfoBlock me manager) (addresses_in manager (cibs_of manager))) (map (address_naming AddressBlock me manager) (addresses_in manager (cabs_of manager)))
    (apart_map (address_naming InfoBlock me manager) (own-inj me manager) (addresses_in manager (cibs_of manager)) (apart-filter (has_address manager) (range_with_len 0 (cibs_of manager)) (apart-range 0 (cibs_of manager))))
    (apart_map (address_naming AddressBlock me manager) (address-inj me manager) (addresses_in manager (cabs_of manager)) (apart-filter (has_address manager) (range_with_len 0 (cabs_of manager)) (apart-range 0 (cabs_of manager))))

-- what holds of all that the manager's addresses name
pub each-address : (P : Naming → Type 0) (me : Namer) (manager : List ℕ) → ((i : ℕ) → P (address_naming InfoBlock me manager i)) → ((i : ℕ) → P (address_naming AddressBlock me manager i)) → Each P (address_namings me manager)
each-address P me manager infos cabs =
    each-if P (cabs_of manager == 0) (map (address_naming InfoBlock me manager) (addresses_in manager (cibs_of manager))) (map (address_naming AddressBlock me manager) (addresses_in manager (cabs_of manager)))
    (each-map P (address_naming InfoBlock me manager) (addresses_in manager (cibs_of manager)) infos)
    (each-map P (address_naming AddressBlock me manager) (addresses_in manager (cabs_of manager)) cabs)

manager-apart : (me : Namer) (manager : List ℕ) → Apart (manager_namings me manager)
manager-apart me manager =
    let pool : List Naming = unless_zero me 208 (TreeRoot (FreeQueue Pool)) ByMapping (pool_queue_of manager) in
    let main : List Naming = unless_zero me 248 (TreeRoot (FreeQueue Main)) ByMapping (main_queue_of manager) in
    let addresses : List Naming = address_namings me manager in
    let main_apart : Apart (main ++ addresses) =
    apart-of me (TreeRoot (FreeQueue Main)) main addresses (apart-unless me 248 (TreeRoot (FreeQueue Main)) ByMapping (main_queue_of manager)) (address-apart me manager)
    (each-is me 248 (TreeRoot (FreeQueue Main)) ByMapping (main_queue_of manager)) (each-address (Isnt me (TreeRoot (FreeQueue Main))) me manager (λ i s t. cc) (λ i s t. cc)) in
    apart-of me (TreeRoot (FreeQueue Pool)) pool (main ++ addresses) (apart-unless me 208 (TreeRoot (FreeQueue Pool)) ByMapping (pool_queue_of manager)) main_apart
    (each-is me 208 (TreeRoot (FreeQueue Pool)) ByMapping (pool_queue_of manager))
    (each-append (Isnt me (TreeRoot (FreeQueue Pool))) main addresses
    (each-unless (Isnt me (TreeRoot (FreeQueue Pool))) me 248 (TreeRoot (FreeQueue Main)) ByMapping (main_queue_of manager) (λ s t. cc))
    (each-address (Isnt me (TreeRoot (FreeQueue Pool))) me manager (λ i s t. cc) (λ i s t. cc)))

cab-apart : (block_size : ℕ) (me : Namer) (manager : List ℕ) (i : ℕ) (cab : List ℕ) → Apart (cab_namings block_size me manager i cab)
cab-apart block_size me manager i cab = apart_map (cib_naming me manager cab) (cib-inj me manager cab) (cibs_in block_size manager i) (apart-filter (is_cib_of block_size manager i) (range_with_len 0 (cibs_of manager)) (apart-range 0 (cibs_of manager)))

through-apart : {X Y : Type 0} (o : Option X) (f : X → List Y) → ((x : X) → Apart (f x)) → Apart (through o f)
through-apart None f a = tt
through-apart (Some x) f a = a x

-- ---- any object
names-apart : (image : List ℕ) (seen : Seen) (how : LookUp) (e : Expected) (x : Object) (bytes : List ℕ) → Apart (names image seen how e (Whole x) bytes)
names-apart image seen how SpaceManager x bytes = manager-apart (Whole x) bytes
names-apart image seen how ContainerMap x bytes = map-apart (Whole x) bytes
names-apart image seen how ReaperObject x bytes = apart-unless (Whole x) 48 ReapList ByMapping (reaper_head_of bytes)
names-apart image seen how ReapList x bytes = apart-unless (Whole x) 32 ReapList ByMapping (reap_next_of bytes)
names-apart image seen how Jumpstart x bytes = tt
names-apart image seen how (VolumeIn slot) x bytes = volume-apart image seen slot x bytes
names-apart image seen how VolumeMap x bytes = map-apart (Whole x) bytes
names-apart image seen how ExtendedMetadata x bytes = tt
names-apart image seen how (SnapshotSuper view) x bytes = view-apart (Whole x) view bytes
names-apart image seen how (AddressBlock i) x bytes = through-apart (manager_of seen) (λ manager. cab_namings (site_of seen).block_size (Whole x) manager i bytes) (λ manager. cab-apart (site_of seen).block_size (Whole x) manager i bytes)
names-apart image seen how (InfoBlock i) x bytes = tt
names-apart image seen how (TreeRoot kind) x bytes = node-apart (Whole x) kind how (level_of bytes) (children_in kind bytes)
names-apart image seen how (TreeNode kind level) x bytes = node-apart (Whole x) kind how level (children_in kind bytes)

names-if-apart : (image : List ℕ) (seen : Seen) (n : Naming) (f : Found) (answer : Answer) → Apart (names_if image seen n f answer)
names-if-apart image seen n f (Ok bytes) = names-apart image seen n.how n.expected f.object f.bytes
names-if-apart image seen n f (Err bad) = tt

-- nothing is named twice by the object of a naming
pub next-apart : (image : List ℕ) (seen : Seen) (n : Naming) → Apart (next image seen n)
unfolding next
next-apart image seen n =
    through-apart (resolved image seen n) (λ (f : Found). names_if image seen n f (tested (site_of seen) n.expected n.oid f.bytes))
    (λ f. names-if-apart image seen n f (tested (site_of seen) n.expected n.oid f.bytes))

-- nor by the newest superblock
pub roots-apart : (nx : List ℕ) → Apart (roots nx)
unfolding roots
roots-apart nx =
    let me : Namer = Whole Newest in
    let reaper : List Naming = unless_zero me 168 ReaperObject ByMapping (reaper_oid_of nx) in
    let jump : List Naming = unless_zero me 1272 Jumpstart ByBlock (jumpstart_of nx) in
    let of_slots : List Naming = flat_map (slot_namings nx) (range_with_len 0 slots) in
    let slots_isnt : (e : Expected) → ((slot : ℕ) → VolumeIn slot ≡ e → ⊥) → Each (Isnt me e) of_slots = λ e d.
    each-flat (Isnt me e) (slot_namings nx) (range_with_len 0 slots) (λ slot. each-unless (Isnt me e) me (184 + 8 * slot) (VolumeIn slot) InContainer (fs_oid_of nx slot) (λ s t. d slot t)) in
    let jump_isnt : (e : Expected) → ((slot : ℕ) → VolumeIn slot ≡ e → ⊥) → (Jumpstart ≡ e → ⊥) → Each (Isnt me e) (jump ++ of_slots) = λ e d c.
    each-append (Isnt me e) jump of_slots (each-unless (Isnt me e) me 1272 Jumpstart ByBlock (jumpstart_of nx) (λ s t. c t)) (slots_isnt e d) in
    let reaper_isnt : (e : Expected) → ((slot : ℕ) → VolumeIn slot ≡ e → ⊥) → (Jumpstart ≡ e → ⊥) → (ReaperObject ≡ e → ⊥) → Each (Isnt me e) (reaper ++ (jump ++ of_slots)) = λ e d c b.
    each-append (Isnt me e) reaper (jump ++ of_slots) (each-unless (Isnt me e) me 168 ReaperObject ByMapping (reaper_oid_of nx) (λ s t. b t)) (jump_isnt e d c) in
    let jump_apart : Apart (jump ++ of_slots) =
    apart-of me Jumpstart jump of_slots (apart-unless me 1272 Jumpstart ByBlock (jumpstart_of nx)) (slots-apart nx (range_with_len 0 slots) (apart-range 0 slots)) (each-is me 1272 Jumpstart ByBlock (jumpstart_of nx)) (slots_isnt Jumpstart (λ slot e. cc)) in
    let reaper_apart : Apart (reaper ++ (jump ++ of_slots)) =
    apart-of me ReaperObject reaper (jump ++ of_slots) (apart-unless me 168 ReaperObject ByMapping (reaper_oid_of nx)) jump_apart (each-is me 168 ReaperObject ByMapping (reaper_oid_of nx)) (jump_isnt ReaperObject (λ slot e. cc) (λ e. cc)) in
    let omap : Naming = naming me 160 ContainerMap ByBlock (omap_oid_of nx) in
    apart-one me 152 SpaceManager ByMapping (space_oid_of nx) (omap ∷ reaper ++ (jump ++ of_slots))
    (apart-one me 160 ContainerMap ByBlock (omap_oid_of nx) (reaper ++ (jump ++ of_slots)) reaper_apart (reaper_isnt ContainerMap (λ slot e. cc) (λ e. cc) (λ e. cc)))
    ((λ s t. cc), reaper_isnt SpaceManager (λ slot e. cc) (λ e. cc) (λ e. cc))

-- ---- who names
-- the record of a snapshot of the volume that is expected
pub record IsKeptBy (e : Expected) (n : Naming) : Type 0 where
  pub slot : ℕ
  pub view : ViewAt
  pub volume : e ≡ VolumeIn slot
  pub namer_is : n.namer ≡ Kept view
  pub slot_is : view.slot ≡ slot

-- an object that is expected, or such a record
abbrev pub IsNamedBy : Object → Expected → Naming → Type 0
IsNamedBy x e n = (n.namer ≡ Whole x) ⊎ IsKeptBy e n

child-by : (x : Object) (e : Expected) (kind : TreeKind) (how : LookUp) (level i : ℕ) (oids : List ℕ) → Each (IsNamedBy x e) (child_namings (Whole x) kind how level i oids)
child-by x e kind how level i [] = tt
child-by x e kind how level i (oid ∷ oids) = (inl refl, child-by x e kind how level (suc i) oids)

node-by : (x : Object) (e : Expected) (kind : TreeKind) (how : LookUp) (level : ℕ) (oids : List ℕ) → Each (IsNamedBy x e) (node_namings (Whole x) kind how level oids)
node-by x e kind how zero oids = tt
node-by x e kind how (suc level) oids = child-by x e kind how level 0 oids

map-by : (x : Object) (e : Expected) (bytes : List ℕ) → Each (IsNamedBy x e) (map_namings (Whole x) bytes)
map-by x e bytes = (inl refl, each-unless (IsNamedBy x e) (Whole x) 56 (TreeRoot MapSnapshots) ByBlock (maps.snap_tree_of bytes) (inl refl))

view-by : (x : Object) (e : Expected) (view : ViewAt) (bytes : List ℕ) → Each (IsNamedBy x e) (view_namings (Whole x) view bytes)
view-by x e view bytes = (inl refl, each-unless (IsNamedBy x e) (Whole x) 1000 ExtendedMetadata (InView view) (volumes.meta_ext_of bytes) (inl refl))

manager-by : (x : Object) (e : Expected) (manager : List ℕ) → Each (IsNamedBy x e) (manager_namings (Whole x) manager)
manager-by x e manager =
    let P : Naming → Type 0 = IsNamedBy x e in
    let me : Namer = Whole x in
    let pool : List Naming = unless_zero me 208 (TreeRoot (FreeQueue Pool)) ByMapping (pool_queue_of manager) in
    let main : List Naming = unless_zero me 248 (TreeRoot (FreeQueue Main)) ByMapping (main_queue_of manager) in
    each-append P pool (main ++ address_namings me manager) (each-unless P me 208 (TreeRoot (FreeQueue Pool)) ByMapping (pool_queue_of manager) (inl refl))
    (each-append P main (address_namings me manager) (each-unless P me 248 (TreeRoot (FreeQueue Main)) ByMapping (main_queue_of manager) (inl refl))
    (each-address P me manager (λ i. inl refl) (λ i. inl refl)))

volume-by : (image : List ℕ) (seen : Seen) (slot : ℕ) (x : Object) (bytes : List ℕ) → Each (IsNamedBy x (VolumeIn slot)) (volume_namings image seen slot (Whole x) bytes)
volume-by image seen slot x bytes =
    let P : Naming → Type 0 = IsNamedBy x (VolumeIn slot) in
    let kept : (n : Naming) (k : ℕ) (pair : Pair) → n.namer ≡ Kept (past_view slot bytes k pair) → P n = λ n k pair e. inr (record { slot = slot; view = past_view slot bytes k pair; volume = refl; namer_is = e; slot_is = refl }) in
    each-volume P image seen slot (Whole x) bytes (inl refl) (view-by x (VolumeIn slot) (live_view seen slot bytes) bytes) (inl refl) (inl refl)
    (each-snapshots P slot bytes 0 (records_of_snapshots image (site_of seen) bytes) (λ k pair oid low. kept _ k pair refl) (λ k pair oid low. kept _ k pair refl))

-- each that an object names is named by it, or by the record of a snapshot
pub names-by : (image : List ℕ) (seen : Seen) (how : LookUp) (e : Expected) (x : Object) (bytes : List ℕ) → Each (IsNamedBy x e) (names image seen how e (Whole x) bytes)
names-by image seen how SpaceManager x bytes = manager-by x SpaceManager bytes
names-by image seen how ContainerMap x bytes = map-by x ContainerMap bytes
names-by image seen how ReaperObject x bytes = each-unless (IsNamedBy x ReaperObject) (Whole x) 48 ReapList ByMapping (reaper_head_of bytes) (inl refl)
names-by image seen how ReapList x bytes = each-unless (IsNamedBy x ReapList) (Whole x) 32 ReapList ByMapping (reap_next_of bytes) (inl refl)
names-by image seen how Jumpstart x bytes = tt
names-by image seen how (VolumeIn slot) x bytes = volume-by image seen slot x bytes
names-by image seen how VolumeMap x bytes = map-by x VolumeMap bytes
names-by image seen how ExtendedMetadata x bytes = tt
names-by image seen how (SnapshotSuper view) x bytes = view-by x (SnapshotSuper view) view bytes
names-by image seen how (AddressBlock i) x bytes =
    each-through (IsNamedBy x (AddressBlock i)) (manager_of seen) (λ manager. cab_namings (site_of seen).block_size (Whole x) manager i bytes)
    (λ manager. each-map (IsNamedBy x (AddressBlock i)) (cib_naming (Whole x) manager bytes) (cibs_in (site_of seen).block_size manager i) (λ c. inl refl))
names-by image seen how (InfoBlock i) x bytes = tt
names-by image seen how (TreeRoot kind) x bytes = node-by x (TreeRoot kind) kind how (level_of bytes) (children_in kind bytes)
names-by image seen how (TreeNode kind level) x bytes = node-by x (TreeNode kind level) kind how level (children_in kind bytes)

-- and the newest superblock names the roots
pub roots-by : (nx : List ℕ) → Each (λ (n : Naming). n.namer ≡ Whole Newest) (roots nx)
unfolding roots
roots-by nx =
    let P : Naming → Type 0 = λ (n : Naming). n.namer ≡ Whole Newest in
    let jump : List Naming = unless_zero (Whole Newest) 1272 Jumpstart ByBlock (jumpstart_of nx) in
    let reaper : List Naming = unless_zero (Whole Newest) 168 ReaperObject ByMapping (reaper_oid_of nx) in
    let of_slots : List Naming = flat_map (slot_namings nx) (range_with_len 0 slots) in (
      refl,
      (
        refl,
        each-append P reaper (jump ++ of_slots) (each-unless P (Whole Newest) 168 ReaperObject ByMapping (reaper_oid_of nx) refl)
            (each-append P jump of_slots (each-unless P (Whole Newest) 1272 Jumpstart ByBlock (jumpstart_of nx) refl)
            (each-flat P (slot_namings nx) (range_with_len 0 slots) (λ slot. each-unless P (Whole Newest) (184 + 8 * slot) (VolumeIn slot) InContainer (fs_oid_of nx slot) refl))),
      ),
    )
