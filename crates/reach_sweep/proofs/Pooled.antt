-- The owners of the pool lie in the pool.
use Rattle.std.proofs.Common.{◌≡◌, ℕ, zero, suc, ◌+◌, ◌*◌, ◌/◌, ◌%◌, ◌<◌, Bool, true, false, ◌&&◌, ◌==◌, nat_lt, List, [], ◌∷◌, ◌++◌, map, Option, Some, None, Ok, Err, inl, inr, refl, ap, sym, ◌∙◌, subst, arith, if◌then◌else◌, ◌⊎◌}
use Rattle.std.specs.Prelude.{nat_le}
use Rattle.std.specs.List.{flat_map, range_with_len}
use Rattle.apfs_model.specs.Blocks.{block_of, is_in, is_within}
use Rattle.apfs_model.specs.Lists.{In, through}
use Rattle.apfs_model.proofs.BoolTests.{left-true, right-true, both-true, other-true, not-true, below-from, from-upto, equal-from, from-range}
use Rattle.apfs_model.proofs.Searches.{in-append, from-map, from-filter, filter-test}
use Rattle.apfs_model.proofs.Greatest.{some-value}
use Rattle.bt_node.specs.Entries.{Pair, bytes_in}
use Rattle.bt_node.specs.Node.{level_of}
use Rattle.nx_block.specs.Super.{space_oid_of, reaper_oid_of, jumpstart_of, fs_oid_of, slots}
use Rattle.nx_block.specs.Reaper.{reaper_head_of, reap_next_of}
use Rattle.nx_ring.specs.Checkpoint.{Seen, site_of}
use Rattle.omap_map.specs.Fields as maps
use Rattle.vol_view.specs.Fields as volumes
use Rattle.vol_view.specs.SnapRecords.{is_snapshot_long, snap_extents_of}
use Rattle.space_map.specs.Fields.{cabs_of, cibs_of, cab_cibs_of, cib_chunks_of, chunks_of, pool_base_of, pool_blocks_of, pool_queue_of, main_queue_of}
use Rattle.space_map.specs.Geometry.{has_cib_place, has_chunk_place}
use Rattle.space_map.specs.Blocks.{address_at, cab_address_at, cib_block}
use Rattle.space_map.specs.Chunks.{chunk_in, chunk_at}
use Rattle.space_map.specs.Tests.{is_in_pool}
use Rattle.space_map.specs.Stops.{HasManager, is_bitmap_placed, IsRightSpace}
use Rattle.space_map.specs.declared.chunk.Chunk.{Chunk}
use Rattle.space_pool.specs.Queues.{queue_of, is_queued_in_pool}
use Rattle.space_pool.specs.declared.entry.Queue.TheVariants.{Pool, Main}
use Rattle.space_pool.specs.declared.entry.QueueEntry.{QueueEntry}
use Rattle.reach_rules.specs.declared.naming.ViewAt.{ViewAt}
use Rattle.reach_rules.specs.declared.naming.LookUp.{LookUp}
use Rattle.reach_rules.specs.declared.naming.LookUp.TheVariants.{ByBlock, ByMapping, InContainer, InView}
use Rattle.reach_rules.specs.declared.naming.Object.{Object}
use Rattle.reach_rules.specs.declared.naming.Object.TheVariants.{Newest, InBlock, OfId, OfRecord}
use Rattle.reach_rules.specs.declared.naming.Namer.{Namer}
use Rattle.reach_rules.specs.declared.naming.Namer.TheVariants.{Whole, Kept}
use Rattle.reach_rules.specs.declared.naming.TreeKind.{TreeKind}
use Rattle.reach_rules.specs.declared.naming.TreeKind.TheVariants.{MapRecords, MapSnapshots, ExtentRefs, SnapMetadata, FreeQueue, Files}
use Rattle.reach_rules.specs.declared.naming.Expected.{Expected}
use Rattle.reach_rules.specs.declared.naming.Expected.TheVariants.{SpaceManager, ContainerMap, ReaperObject, ReapList, Jumpstart, VolumeIn, VolumeMap, ExtendedMetadata, SnapshotSuper, AddressBlock, InfoBlock, TreeRoot, TreeNode}
use Rattle.reach_rules.specs.declared.naming.Naming.{Naming}
use Rattle.reach_rules.specs.Resolved.{Found, resolved, standing, found_by}
use Rattle.reach_rules.specs.Tested.{Answer, tested}
use Rattle.reach_rules.specs.Next.{roots, names, unless_zero, slot_namings, map_namings, live_view, past_view, view_namings, record_namings, snapshot_namings, snapshots_namings, records_of_snapshots, address_namings, manager_namings, is_cib_of, cib_naming, cibs_in, cab_namings, children_in, child_namings, node_namings, volume_namings}
use Rattle.reach_rules.specs.Live.{rooted, led, IsLive}
use Rattle.reach_rules.specs.declared.owner.Who.TheVariants.{Named}
use Rattle.reach_rules.specs.declared.owner.Owner.{Owner}
use Rattle.reach_rules.specs.Owners.{owner, told_from, queued_ranges_of, tells_of_chunks}
use Rattle.reach_rules.specs.PoolOwners.{pool_object_owners, is_chunk_of, has_bitmap_in, bitmaps_in, bitmap_owner, bitmap_owners, pool_told_owners, pool_told_if, pool_owners_through}
use Rattle.reach_rules.specs.Reached.{range_of}
use Rattle.reach_rules.proofs.Nexts.{Each, each-in, each-append, each-if, each-flat, each-unless, from-next}
use Rattle.reach_rules.proofs.Looks.{standing-by}
use Rattle.reach_rules.proofs.SpaceLifted.{there, manager-sound, own-block, other-block}
use Rattle.reach_gather.specs.Pooled.{ArePooled}
use Rattle.reach_gather.proofs.Chunked.{chunk-there}
use Rattle.reach_gather.proofs.SpacePart.{IsInfoAt, IsAddressAt, from-addresses}
use Rattle.reach_sweep.specs.Composed.{ArePlacedBy}

-- ---- where live namings stand
-- a chunk-info address block, and a chunk-info block, by its index
pub record IsCabAt (manager : List ℕ) (how : LookUp) (oid i : ℕ) : Type 0 where
  pub by : how ≡ ByBlock
  pub some : (cabs_of manager == 0) ≡ false
  pub low : i < cabs_of manager
  pub at : oid ≡ address_at manager i

pub record IsCibAt (image : List ℕ) (seen : Seen) (manager : List ℕ) (how : LookUp) (oid i : ℕ) : Type 0 where
  pub by : how ≡ ByBlock
  pub low : i < cibs_of manager
  pub at : oid ≡ cib_block (site_of seen).block_size image manager i

pub record IsManagerAt (seen : Seen) (how : LookUp) (oid : ℕ) : Type 0 where
  pub by : how ≡ ByMapping
  pub at : oid ≡ space_oid_of seen.nx

-- the root of the pool's queue is the one that the manager names
abbrev pub RootedAs : List ℕ → ℕ → TreeKind → Type 0
RootedAs manager oid MapRecords = Unit {0}
RootedAs manager oid MapSnapshots = Unit {0}
RootedAs manager oid ExtentRefs = Unit {0}
RootedAs manager oid SnapMetadata = Unit {0}
RootedAs manager oid (FreeQueue Pool) = oid ≡ pool_queue_of manager
RootedAs manager oid (FreeQueue Main) = Unit {0}
RootedAs manager oid (Files hashed) = Unit {0}

-- an id stands where the manager says, by what is expected
abbrev pub StandsAs : List ℕ → Seen → List ℕ → LookUp → ℕ → Expected → Type 0
StandsAs image seen manager how oid SpaceManager = IsManagerAt seen how oid
StandsAs image seen manager how oid ContainerMap = Unit {0}
StandsAs image seen manager how oid ReaperObject = Unit {0}
StandsAs image seen manager how oid ReapList = Unit {0}
StandsAs image seen manager how oid Jumpstart = Unit {0}
StandsAs image seen manager how oid (VolumeIn slot) = Unit {0}
StandsAs image seen manager how oid VolumeMap = Unit {0}
StandsAs image seen manager how oid ExtendedMetadata = Unit {0}
StandsAs image seen manager how oid (SnapshotSuper view) = Unit {0}
StandsAs image seen manager how oid (AddressBlock i) = IsCabAt manager how oid i
StandsAs image seen manager how oid (InfoBlock i) = IsCibAt image seen manager how oid i
StandsAs image seen manager how oid (TreeRoot kind) = RootedAs manager oid kind
StandsAs image seen manager how oid (TreeNode kind level) = Unit {0}

-- so does a naming
abbrev pub IsRightAt : List ℕ → Seen → List ℕ → Naming → Type 0
IsRightAt image seen manager n = StandsAs image seen manager n.how n.oid n.expected

pub each-all : {X : Type 0} (P : X → Type 0) (xs : List X) → ((x : X) → In x xs → P x) → Each P xs
each-all P [] h = tt
each-all P (x ∷ xs) h = (h x (inl refl), each-all P xs (λ y k. h y (inr k)))

-- ---- what each object names
child-right : (image : List ℕ) (seen : Seen) (manager : List ℕ) (namer : Namer) (kind : TreeKind) (how : LookUp) (level i : ℕ) (oids : List ℕ) → Each (IsRightAt image seen manager) (child_namings namer kind how level i oids)
child-right image seen manager namer kind how level i [] = tt
child-right image seen manager namer kind how level i (oid ∷ oids) = (tt, child-right image seen manager namer kind how level (suc i) oids)

node-right : (image : List ℕ) (seen : Seen) (manager : List ℕ) (namer : Namer) (kind : TreeKind) (how : LookUp) (level : ℕ) (oids : List ℕ) → Each (IsRightAt image seen manager) (node_namings namer kind how level oids)
node-right image seen manager namer kind how zero oids = tt
node-right image seen manager namer kind how (suc level) oids = child-right image seen manager namer kind how level 0 oids

map-right : (image : List ℕ) (seen : Seen) (manager : List ℕ) (namer : Namer) (bytes : List ℕ) → Each (IsRightAt image seen manager) (map_namings namer bytes)
map-right image seen manager namer bytes = (tt, each-unless (IsRightAt image seen manager) namer 56 (TreeRoot MapSnapshots) ByBlock (maps.snap_tree_of bytes) tt)

view-right : (image : List ℕ) (seen : Seen) (manager : List ℕ) (namer : Namer) (view : ViewAt) (bytes : List ℕ) → Each (IsRightAt image seen manager) (view_namings namer view bytes)
view-right image seen manager namer view bytes = (tt, each-unless (IsRightAt image seen manager) namer 1000 ExtendedMetadata (InView view) (volumes.meta_ext_of bytes) tt)

record-right : (image : List ℕ) (seen : Seen) (manager : List ℕ) (view : ViewAt) (value : List ℕ) → Each (IsRightAt image seen manager) (record_namings view value)
record-right image seen manager view value = (tt, each-unless (IsRightAt image seen manager) (Kept view) 0 (TreeRoot ExtentRefs) ByBlock (snap_extents_of value) tt)

snapshot-right : (image : List ℕ) (seen : Seen) (manager : List ℕ) (slot : ℕ) (bytes : List ℕ) (i : ℕ) (pairs : List Pair) → Each (IsRightAt image seen manager) (snapshots_namings slot bytes i pairs)
snapshot-right image seen manager slot bytes i [] = tt
snapshot-right image seen manager slot bytes i (pair ∷ pairs) =
    let P : Naming → Type 0 = IsRightAt image seen manager in
    each-append P (snapshot_namings slot bytes i pair) (snapshots_namings slot bytes (suc i) pairs)
    (each-if P (is_snapshot_long pair) (record_namings (past_view slot bytes i pair) (bytes_in pair.value)) [] (record-right image seen manager (past_view slot bytes i pair) (bytes_in pair.value)) tt)
    (snapshot-right image seen manager slot bytes (suc i) pairs)

volume-right : (image : List ℕ) (seen : Seen) (manager : List ℕ) (slot : ℕ) (me : Namer) (bytes : List ℕ) → Each (IsRightAt image seen manager) (volume_namings image seen slot me bytes)
volume-right image seen manager slot me bytes =
    let P : Naming → Type 0 = IsRightAt image seen manager in
    let snaps = snapshots_namings slot bytes 0 (records_of_snapshots image (site_of seen) bytes) in
    let metadata = unless_zero me 152 (TreeRoot SnapMetadata) ByBlock (volumes.snaps_root_of bytes) in
    let extents = unless_zero me 144 (TreeRoot ExtentRefs) ByBlock (volumes.extents_root_of bytes) in (
      tt,
      each-append P (view_namings me (live_view seen slot bytes) bytes) (extents ++ (metadata ++ snaps)) (view-right image seen manager me (live_view seen slot bytes) bytes)
          (each-append P extents (metadata ++ snaps) (each-unless P me 144 (TreeRoot ExtentRefs) ByBlock (volumes.extents_root_of bytes) tt)
          (each-append P metadata snaps (each-unless P me 152 (TreeRoot SnapMetadata) ByBlock (volumes.snaps_root_of bytes) tt)
          (snapshot-right image seen manager slot bytes 0 (records_of_snapshots image (site_of seen) bytes)))),
    )

-- what the manager's addresses name
named-right : (image : List ℕ) (seen : Seen) (manager : List ℕ) (me : Namer) (n : Naming) → IsInfoAt manager me n ⊎ IsAddressAt manager me n → IsRightAt image seen manager n
named-right image seen manager me n (inl (none, a)) = subst (IsRightAt image seen manager) (sym a.is) (record { by = refl; low = a.low; at = sym (own-block (site_of seen).block_size image manager a.index none) })
named-right image seen manager me n (inr (some, a)) = subst (IsRightAt image seen manager) (sym a.is) (record { by = refl; some = some; low = a.low; at = refl })

address-right : (image : List ℕ) (seen : Seen) (manager : List ℕ) (me : Namer) → Each (IsRightAt image seen manager) (address_namings me manager)
address-right image seen manager me = each-all (IsRightAt image seen manager) (address_namings me manager) (λ n h. named-right image seen manager me n (from-addresses manager me n h))

manager-right : (image : List ℕ) (seen : Seen) (manager : List ℕ) (me : Namer) → Each (IsRightAt image seen manager) (manager_namings me manager)
manager-right image seen manager me =
    let P : Naming → Type 0 = IsRightAt image seen manager in
    let pool = unless_zero me 208 (TreeRoot (FreeQueue Pool)) ByMapping (pool_queue_of manager) in
    let main = unless_zero me 248 (TreeRoot (FreeQueue Main)) ByMapping (main_queue_of manager) in
    each-append P pool (main ++ address_namings me manager) (each-unless P me 208 (TreeRoot (FreeQueue Pool)) ByMapping (pool_queue_of manager) refl)
    (each-append P main (address_namings me manager) (each-unless P me 248 (TreeRoot (FreeQueue Main)) ByMapping (main_queue_of manager) tt)
    (address-right image seen manager me))

-- the manager that is found is the one that is there
manager-bytes : (image : List ℕ) (seen : Seen) (manager : List ℕ) (block : ℕ) → HasManager seen manager block → (how : LookUp) (oid : ℕ) (f : Found) → IsManagerAt seen how oid → found_by image seen how SpaceManager oid ≡ Some f → f.bytes ≡ manager
unfolding resolved there
manager-bytes image seen manager block has how oid f at h =
    let s = manager-sound image seen manager block has in
    let by : found_by image seen ByMapping SpaceManager oid ≡ Some f = subst (λ x. found_by image seen x SpaceManager oid ≡ Some f) at.by h in
    let here : found_by image seen ByMapping SpaceManager (space_oid_of seen.nx) ≡ Some f = subst (λ x. found_by image seen ByMapping SpaceManager x ≡ Some f) at.at by in
    ap (λ (x : Found). x.bytes) (some-value f (there seen manager block) (sym here ∙ s.names.found))

-- what is found by a block stands in it
pub block-stands : (image : List ℕ) (seen : Seen) (how : LookUp) (e : Expected) (oid : ℕ) (f : Found) → how ≡ ByBlock → found_by image seen how e oid ≡ Some f → f ≡ standing image (site_of seen) (InBlock oid) oid
block-stands image seen how e oid f by h = standing-by image (site_of seen) oid f (subst (λ x. found_by image seen x e oid ≡ Some f) by h)

block-bytes : (image : List ℕ) (seen : Seen) (how : LookUp) (e : Expected) (oid at : ℕ) (f : Found) → how ≡ ByBlock → oid ≡ at → found_by image seen how e oid ≡ Some f → f.bytes ≡ block_of (site_of seen).block_size image at
block-bytes image seen how e oid at f by is h = ap (λ (x : Found). x.bytes) (block-stands image seen how e oid f by h) ∙ ap (λ b. block_of (site_of seen).block_size image b) is

cibs-right : (image : List ℕ) (seen : Seen) (manager : List ℕ) (me : Namer) (i : ℕ) (cab : List ℕ) → (cabs_of manager == 0) ≡ false → cab ≡ block_of (site_of seen).block_size image (address_at manager i)
    → (n : Naming) → In n (cab_namings (site_of seen).block_size me manager i cab) → IsRightAt image seen manager n
cibs-right image seen manager me i cab some is n h =
    let B : ℕ = (site_of seen).block_size in
    let t = from-map (cib_naming me manager cab) (cibs_in B manager i) n h in
    let c : ℕ = t.0 in
    let test : is_cib_of B manager i c ≡ true = filter-test (is_cib_of B manager i) c (range_with_len 0 (cibs_of manager)) t.1.0 in
    let of : c / cab_cibs_of manager ≡ i = equal-from (c / cab_cibs_of manager) i (left-true (c / cab_cibs_of manager == i) (has_cib_place B manager c) test) in
    let low : c < 0 + cibs_of manager = from-range 0 (cibs_of manager) c (from-filter (is_cib_of B manager i) c (range_with_len 0 (cibs_of manager)) t.1.0) in
    let at : cib_block B image manager c ≡ cab_address_at cab (c % cab_cibs_of manager) =
    other-block B image manager c some
    ∙ (ap (λ k. cab_address_at (block_of B image (address_at manager k)) (c % cab_cibs_of manager)) of
    ∙ ap (λ x. cab_address_at x (c % cab_cibs_of manager)) (sym is)) in
    subst (IsRightAt image seen manager) (sym t.1.1) (record { by = refl; low = omega (arith, low); at = sym at })

-- what any object that is found names
names-right : (image : List ℕ) (seen : Seen) (manager : List ℕ) (block : ℕ) → HasManager seen manager block → (how : LookUp) (oid : ℕ) (e : Expected) (f : Found) → found_by image seen how e oid ≡ Some f → StandsAs image seen manager how oid e
    → Each (IsRightAt image seen manager) (names image seen how e (Whole f.object) f.bytes)
names-right image seen manager block has how oid SpaceManager f h at =
    subst (λ (bytes : List ℕ). Each (IsRightAt image seen manager) (manager_namings (Whole f.object) bytes)) (sym (manager-bytes image seen manager block has how oid f at h)) (manager-right image seen manager (Whole f.object))
names-right image seen manager block has how oid ContainerMap f h at = map-right image seen manager (Whole f.object) f.bytes
names-right image seen manager block has how oid ReaperObject f h at = each-unless (IsRightAt image seen manager) (Whole f.object) 48 ReapList ByMapping (reaper_head_of f.bytes) tt
names-right image seen manager block has how oid ReapList f h at = each-unless (IsRightAt image seen manager) (Whole f.object) 32 ReapList ByMapping (reap_next_of f.bytes) tt
names-right image seen manager block has how oid Jumpstart f h at = tt
names-right image seen manager block has how oid (VolumeIn slot) f h at = volume-right image seen manager slot (Whole f.object) f.bytes
names-right image seen manager block has how oid VolumeMap f h at = map-right image seen manager (Whole f.object) f.bytes
names-right image seen manager block has how oid ExtendedMetadata f h at = tt
names-right image seen manager block has how oid (SnapshotSuper view) f h at = view-right image seen manager (Whole f.object) view f.bytes
names-right image seen manager block has how oid (AddressBlock i) f h at =
    let B : ℕ = (site_of seen).block_size in
    let me : Namer = Whole f.object in
    subst (λ (o : Option (List ℕ)). Each (IsRightAt image seen manager) (through o (λ m. cab_namings B me m i f.bytes))) (sym has.some)
    (each-all (IsRightAt image seen manager) (cab_namings B me manager i f.bytes) (cibs-right image seen manager me i f.bytes at.some (block-bytes image seen how (AddressBlock i) oid (address_at manager i) f at.by at.at h)))
names-right image seen manager block has how oid (InfoBlock i) f h at = tt
names-right image seen manager block has how oid (TreeRoot kind) f h at = node-right image seen manager (Whole f.object) kind how (level_of f.bytes) (children_in kind f.bytes)
names-right image seen manager block has how oid (TreeNode kind level) f h at = node-right image seen manager (Whole f.object) kind how level (children_in kind f.bytes)

roots-right : (image : List ℕ) (seen : Seen) (manager : List ℕ) → Each (IsRightAt image seen manager) (roots seen.nx)
unfolding roots
roots-right image seen manager =
    let P : Naming → Type 0 = IsRightAt image seen manager in
    let jump : List Naming = unless_zero (Whole Newest) 1272 Jumpstart ByBlock (jumpstart_of seen.nx) in
    let reaper : List Naming = unless_zero (Whole Newest) 168 ReaperObject ByMapping (reaper_oid_of seen.nx) in
    let of_slots : List Naming = flat_map (slot_namings seen.nx) (range_with_len 0 slots) in (
      record { by = refl; at = refl },
      (
        tt,
        each-append P reaper (jump ++ of_slots) (each-unless P (Whole Newest) 168 ReaperObject ByMapping (reaper_oid_of seen.nx) tt)
            (each-append P jump of_slots (each-unless P (Whole Newest) 1272 Jumpstart ByBlock (jumpstart_of seen.nx) tt)
            (each-flat P (slot_namings seen.nx) (range_with_len 0 slots) (λ slot. each-unless P (Whole Newest) (184 + 8 * slot) (VolumeIn slot) InContainer (fs_oid_of seen.nx slot) tt))),
      ),
    )

-- each live naming stands where the manager says
pub live-right : (image : List ℕ) (seen : Seen) (manager : List ℕ) (block : ℕ) → HasManager seen manager block → (n : Naming) → IsLive image seen n → IsRightAt image seen manager n
unfolding resolved
live-right image seen manager block has n (rooted _ h) = each-in (IsRightAt image seen manager) (roots seen.nx) n (roots-right image seen manager) h
live-right image seen manager block has n (led m _ live h) =
    let l = from-next image seen m n h in
    let f : Found = l.object in
    each-in (IsRightAt image seen manager) (names image seen m.how m.expected (Whole f.object) f.bytes) n
    (names-right image seen manager block has m.how m.oid m.expected f l.found (live-right image seen manager block has m live)) l.names

-- ---- owners
-- an owner lies in the pool
abbrev LiesInPool : List ℕ → Owner → Type 0
LiesInPool manager a = is_within a.first a.blocks (pool_base_of manager) (pool_blocks_of manager) ≡ true

block-within : (seen : Seen) (manager : List ℕ) (block : ℕ) → is_in_pool (site_of seen) manager block ≡ true → is_within block 1 (pool_base_of manager) (pool_blocks_of manager) ≡ true
unfolding is_in_pool
block-within seen manager block e =
    let base : ℕ = pool_base_of manager in
    let len : ℕ = pool_blocks_of manager in
    let inside : is_in block base len ≡ true = left-true (is_in block base len) (nat_lt block (site_of seen).blocks) e in
    let high : block < base + len = below-from block (base + len) (right-true (nat_le base block) (nat_lt block (base + len)) inside) in
    both-true (nat_le base block) (nat_le (block + 1) (base + len)) (left-true (nat_le base block) (nat_lt block (base + len)) inside) (from-upto (block + 1) (base + len) (omega (arith, high)))

-- a named object
object-none : (n : Naming) (x : Object) (a : Owner) → tells_of_chunks n.expected ≡ false → In a (pool_object_owners n x) → ⊥
object-none n Newest a e h = h
object-none n (InBlock block) a e h = let z : In a [] = subst (λ (b : Bool). In a (if b then owner (Named n) block 1 ∷ [] else [])) e h in z
object-none n (OfId oid) a e h = h
object-none n (OfRecord map r) a e h = h

if-one : (b : Bool) (x a : Owner) → In a (if b then x ∷ [] else []) → a ≡ x
if-one true x a (inl e) = e
if-one true x a (inr k) = absurd k
if-one false x a h = absurd h

object-block : (image : List ℕ) (seen : Seen) (manager : List ℕ) (n : Naming) (f : Found) (a : Owner) → f ≡ standing image (site_of seen) (InBlock n.oid) n.oid → is_in_pool (site_of seen) manager n.oid ≡ true → In a (pool_object_owners n f.object) → LiesInPool manager a
object-block image seen manager n f a stands placed h =
    let k : In a (pool_object_owners n (InBlock n.oid)) = subst (λ (x : Found). In a (pool_object_owners n x.object)) stands h in
    subst (LiesInPool manager) (sym (if-one (tells_of_chunks n.expected) (owner (Named n) n.oid 1) a k)) (block-within seen manager n.oid placed)

-- a naming that doesn't tell of chunks
telling : (n : Naming) (e : Expected) → n.expected ≡ e → tells_of_chunks e ≡ false → tells_of_chunks n.expected ≡ false
telling n e is none = ap tells_of_chunks is ∙ none

object-pooled : (image : List ℕ) (seen : Seen) (manager : List ℕ) → IsRightSpace image (site_of seen) manager → (n : Naming) (e : Expected) (f : Found) (a : Owner) → n.expected ≡ e → found_by image seen n.how e n.oid ≡ Some f → StandsAs image seen manager n.how n.oid e
    → In a (pool_object_owners n f.object) → LiesInPool manager a
object-pooled image seen manager right n SpaceManager f a is h at k = absurd (object-none n f.object a (telling n SpaceManager is refl) k)
object-pooled image seen manager right n ContainerMap f a is h at k = absurd (object-none n f.object a (telling n ContainerMap is refl) k)
object-pooled image seen manager right n ReaperObject f a is h at k = absurd (object-none n f.object a (telling n ReaperObject is refl) k)
object-pooled image seen manager right n ReapList f a is h at k = absurd (object-none n f.object a (telling n ReapList is refl) k)
object-pooled image seen manager right n Jumpstart f a is h at k = absurd (object-none n f.object a (telling n Jumpstart is refl) k)
object-pooled image seen manager right n (VolumeIn slot) f a is h at k = absurd (object-none n f.object a (telling n (VolumeIn slot) is refl) k)
object-pooled image seen manager right n VolumeMap f a is h at k = absurd (object-none n f.object a (telling n VolumeMap is refl) k)
object-pooled image seen manager right n ExtendedMetadata f a is h at k = absurd (object-none n f.object a (telling n ExtendedMetadata is refl) k)
object-pooled image seen manager right n (SnapshotSuper view) f a is h at k = absurd (object-none n f.object a (telling n (SnapshotSuper view) is refl) k)
object-pooled image seen manager right n (AddressBlock i) f a is h at k =
    object-block image seen manager n f a (block-stands image seen n.how (AddressBlock i) n.oid f at.by h) (subst (λ b. is_in_pool (site_of seen) manager b ≡ true) (sym at.at) (right.cabs i at.low).placed) k
object-pooled image seen manager right n (InfoBlock i) f a is h at k =
    object-block image seen manager n f a (block-stands image seen n.how (InfoBlock i) n.oid f at.by h) (subst (λ b. is_in_pool (site_of seen) manager b ≡ true) (sym at.at) (right.cibs i at.low).placed) k
object-pooled image seen manager right n (TreeRoot kind) f a is h at k = absurd (object-none n f.object a (telling n (TreeRoot kind) is refl) k)
object-pooled image seen manager right n (TreeNode kind level) f a is h at k = absurd (object-none n f.object a (telling n (TreeNode kind level) is refl) k)

-- the bitmap of a chunk
placed-bitmap : (seen : Seen) (manager : List ℕ) (chunk : Chunk) → (chunk.bitmap == 0) ≡ false → is_bitmap_placed (site_of seen) manager chunk ≡ true → is_in_pool (site_of seen) manager chunk.bitmap ≡ true
unfolding is_bitmap_placed
placed-bitmap seen manager chunk some e = other-true (chunk.bitmap == 0) (is_in_pool (site_of seen) manager chunk.bitmap) some e

bitmap-pooled : (image : List ℕ) (seen : Seen) (manager : List ℕ) → IsRightSpace image (site_of seen) manager → (c : ℕ) (cib : List ℕ) (a : Owner) → cib ≡ block_of (site_of seen).block_size image (cib_block (site_of seen).block_size image manager c)
    → In a (bitmap_owners (site_of seen).block_size manager c cib) → LiesInPool manager a
bitmap-pooled image seen manager right c cib a is h =
    let B : ℕ = (site_of seen).block_size in
    let t = from-map (bitmap_owner manager cib) (bitmaps_in B manager c cib) a h in
    let k : ℕ = t.0 in
    let both : (is_chunk_of B manager c k && has_bitmap_in manager cib k) ≡ true = filter-test (λ k. is_chunk_of B manager c k && has_bitmap_in manager cib k) k (range_with_len 0 (chunks_of manager)) t.1.0 in
    let of : k / cib_chunks_of manager ≡ c = equal-from (k / cib_chunks_of manager) c (left-true (k / cib_chunks_of manager == c) (has_chunk_place B manager k) (left-true (is_chunk_of B manager c k) (has_bitmap_in manager cib k) both)) in
    let at : chunk_in cib (k % cib_chunks_of manager) ≡ chunk_at B image manager k = ap (λ x. chunk_in x (k % cib_chunks_of manager)) is ∙ chunk-there B image manager c k of in
    let some : ((chunk_in cib (k % cib_chunks_of manager)).bitmap == 0) ≡ false = not-true ((chunk_in cib (k % cib_chunks_of manager)).bitmap == 0) (right-true (is_chunk_of B manager c k) (has_bitmap_in manager cib k) both) in
    let low : k < 0 + chunks_of manager = from-range 0 (chunks_of manager) k (from-filter (λ k. is_chunk_of B manager c k && has_bitmap_in manager cib k) k (range_with_len 0 (chunks_of manager)) t.1.0) in
    let placed : is_bitmap_placed (site_of seen) manager (chunk_in cib (k % cib_chunks_of manager)) ≡ true = subst (λ (x : Chunk). is_bitmap_placed (site_of seen) manager x ≡ true) (sym at) (right.bitmaps k (omega (arith, low))) in
    subst (LiesInPool manager) (sym t.1.1) (block-within seen manager (chunk_in cib (k % cib_chunks_of manager)).bitmap (placed-bitmap seen manager (chunk_in cib (k % cib_chunks_of manager)) some placed))

-- what the pool's queue keeps
queued-within : (manager : List ℕ) (e : QueueEntry) → (e.length == 0) ≡ false → is_queued_in_pool manager e ≡ true → is_within e.paddr e.length (pool_base_of manager) (pool_blocks_of manager) ≡ true
unfolding is_queued_in_pool
queued-within manager e some q = other-true (e.length == 0) (is_within e.paddr e.length (pool_base_of manager) (pool_blocks_of manager)) some q

queue-pooled : (manager : List ℕ) (n : Naming) (i : ℕ) (es : List QueueEntry) (a : Owner) → ((e : QueueEntry) → In e es → is_queued_in_pool manager e ≡ true) → (a.blocks == 0) ≡ false
    → In a (told_from n i (map (λ (e : QueueEntry). (e.paddr, e.length)) es)) → LiesInPool manager a
queue-pooled manager n i [] a queued some h = absurd h
queue-pooled manager n i (e ∷ es) a queued some (inl is) =
    let there : (e.length == 0) ≡ false = subst (λ (x : Owner). (x.blocks == 0) ≡ false) is some in
    subst (LiesInPool manager) (sym is) (queued-within manager e there (queued e (inl refl)))
queue-pooled manager n i (e ∷ es) a queued some (inr h) = queue-pooled manager n (suc i) es a (λ x k. queued x (inr k)) some h

root-pooled : (image : List ℕ) (seen : Seen) (manager : List ℕ) → ArePooled image seen manager → (n : Naming) (kind : TreeKind) (bytes : List ℕ) (a : Owner) → RootedAs manager n.oid kind → (a.blocks == 0) ≡ false
    → In a (pool_told_owners image seen n (TreeRoot kind) bytes) → LiesInPool manager a
root-pooled image seen manager pooled n MapRecords bytes a at some h = absurd h
root-pooled image seen manager pooled n MapSnapshots bytes a at some h = absurd h
root-pooled image seen manager pooled n ExtentRefs bytes a at some h = absurd h
root-pooled image seen manager pooled n SnapMetadata bytes a at some h = absurd h
root-pooled image seen manager pooled n (FreeQueue Pool) bytes a at some h =
    let k : In a (told_from n 0 (map (λ (e : QueueEntry). (e.paddr, e.length)) (queue_of image seen manager Pool))) = subst (λ oid. In a (told_from n 0 (queued_ranges_of image seen oid))) at h in
    queue-pooled manager n 0 (queue_of image seen manager Pool) a pooled some k
root-pooled image seen manager pooled n (FreeQueue Main) bytes a at some h = absurd h
root-pooled image seen manager pooled n (Files hashed) bytes a at some h = absurd h

told-pooled : (image : List ℕ) (seen : Seen) (manager : List ℕ) (block : ℕ) → HasManager seen manager block → IsRightSpace image (site_of seen) manager → ArePooled image seen manager
    → (n : Naming) (e : Expected) (f : Found) (a : Owner) → found_by image seen n.how e n.oid ≡ Some f → StandsAs image seen manager n.how n.oid e → (a.blocks == 0) ≡ false
    → In a (pool_told_owners image seen n e f.bytes) → LiesInPool manager a
told-pooled image seen manager block has right pooled n SpaceManager f a h at some k = absurd k
told-pooled image seen manager block has right pooled n ContainerMap f a h at some k = absurd k
told-pooled image seen manager block has right pooled n ReaperObject f a h at some k = absurd k
told-pooled image seen manager block has right pooled n ReapList f a h at some k = absurd k
told-pooled image seen manager block has right pooled n Jumpstart f a h at some k = absurd k
told-pooled image seen manager block has right pooled n (VolumeIn slot) f a h at some k = absurd k
told-pooled image seen manager block has right pooled n VolumeMap f a h at some k = absurd k
told-pooled image seen manager block has right pooled n ExtendedMetadata f a h at some k = absurd k
told-pooled image seen manager block has right pooled n (SnapshotSuper view) f a h at some k = absurd k
told-pooled image seen manager block has right pooled n (AddressBlock i) f a h at some k = absurd k
told-pooled image seen manager block has right pooled n (InfoBlock i) f a h at some k =
    let B : ℕ = (site_of seen).block_size in
    let m : In a (bitmap_owners B manager i f.bytes) = subst (λ (o : Option (List ℕ)). In a (through o (λ x. bitmap_owners B x i f.bytes))) has.some k in
    bitmap-pooled image seen manager right i f.bytes a (block-bytes image seen n.how (InfoBlock i) n.oid (cib_block B image manager i) f at.by at.at h) m
told-pooled image seen manager block has right pooled n (TreeRoot kind) f a h at some k = root-pooled image seen manager pooled n kind f.bytes a at some k
told-pooled image seen manager block has right pooled n (TreeNode kind level) f a h at some k = absurd k

told-if : (image : List ℕ) (seen : Seen) (n : Naming) (f : Found) (r : Answer) (a : Owner) → In a (pool_told_if image seen n f r) → In a (pool_told_owners image seen n n.expected f.bytes)
told-if image seen n f (Ok b) a h = h
told-if image seen n f (Err bad) a h = absurd h

-- the pool's owners, of one block or more, through a live naming lie in the pool
pub owner-pooled : (image : List ℕ) (seen : Seen) (manager : List ℕ) (block : ℕ) → HasManager seen manager block → IsRightSpace image (site_of seen) manager → ArePooled image seen manager
    → (n : Naming) (a : Owner) → IsLive image seen n → In a (pool_owners_through image seen n) → (a.blocks == 0) ≡ false → LiesInPool manager a
unfolding pool_owners_through resolved
owner-pooled image seen manager block has right pooled n a live h some =
    let at : IsRightAt image seen manager n = live-right image seen manager block has n live in
    let each : Found → List Owner = λ (f : Found). pool_object_owners n f.object ++ pool_told_if image seen n f (tested (site_of seen) n.expected n.oid f.bytes) in
    let go : (o : Option Found) → found_by image seen n.how n.expected n.oid ≡ o → In a (through o each) → LiesInPool manager a =
    λ o. elim o as (λ o. found_by image seen n.how n.expected n.oid ≡ o → In a (through o each) → LiesInPool manager a) [
      | None ↦ λ e k. absurd k
      | Some f ↦ λ e k. elim (in-append a (pool_object_owners n f.object) (pool_told_if image seen n f (tested (site_of seen) n.expected n.oid f.bytes)) k) as (λ _. LiesInPool manager a) [
        | inl m ↦ object-pooled image seen manager right n n.expected f a refl e at m
        | inr m ↦ told-pooled image seen manager block has right pooled n n.expected f a e at some (told-if image seen n f (tested (site_of seen) n.expected n.oid f.bytes) a m)
      ]
    ] in
    go (found_by image seen n.how n.expected n.oid) refl h

-- so do the ranges of the owners that were gathered
pub placed-by : (image : List ℕ) (seen : Seen) → ArePlacedBy image seen
placed-by image seen rest records start parts done space ranges s g told r is pooled range h =
    let t = from-map range_of r.each range (subst (λ (xs : List (ℕ × ℕ)). In range xs) r.same h) in
    let a : Owner = t.0 in
    let held : In a parts.pool_owners = subst (λ (os : List Owner). In a os) told.pool_owners (r.lists.0 a t.1.0) in
    let inside : LiesInPool space.manager a = elim (g.grew.pool_owners.from a held) as (λ _. LiesInPool space.manager a) [
      | inl k ↦ absurd (let z : In a [] = subst (λ (os : List Owner). In a os) s.pool_owners k in z)
      | inr w ↦ owner-pooled image seen space.manager is.block is.manager is.right pooled w.naming a (g.part.these_live w.naming w.one) w.owner w.some
    ] in
    subst (λ (x : ℕ × ℕ). is_within x.0 x.1 (pool_base_of space.manager) (pool_blocks_of space.manager) ≡ true) (sym t.1.1) inside
