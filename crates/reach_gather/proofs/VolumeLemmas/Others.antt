-- Volumes alone are looked up in the container's object map.
use Rattle.std.proofs.Common.{◌≡◌, ℕ, zero, suc, ◌+◌, ◌*◌, true, false, ◌==◌, List, [], ◌∷◌, ◌++◌, map, ◌⊎◌, inl, inr, refl, ap, sym, ◌∙◌, subst}
use Rattle.std.specs.List.{flat_map, range_with_len}
use Rattle.apfs_model.specs.Lists.{In}
use Rattle.apfs_model.proofs.Searches.{in-append, from-flat_map}
use Rattle.bt_node.specs.Entries.{Pair, bytes_in}
use Rattle.bt_node.specs.Node.{level_of}
use Rattle.nx_block.specs.Super.{reaper_oid_of, jumpstart_of, fs_oid_of, slots}
use Rattle.nx_block.specs.Reaper.{reaper_head_of, reap_next_of}
use Rattle.nx_ring.specs.Checkpoint.{Seen, site_of}
use Rattle.omap_map.specs.Fields as maps
use Rattle.vol_view.specs.Fields as volumes
use Rattle.vol_view.specs.SnapRecords.{is_snapshot_long, snap_extents_of}
use Rattle.space_map.specs.Fields.{cabs_of, cibs_of, pool_queue_of, main_queue_of}
use Rattle.space_map.specs.Blocks.{manager_of}
use Rattle.space_pool.specs.declared.entry.Queue.TheVariants.{Pool, Main}
use Rattle.reach_rules.specs.declared.naming.ViewAt.{ViewAt}
use Rattle.reach_rules.specs.declared.naming.LookUp.{LookUp}
use Rattle.reach_rules.specs.declared.naming.LookUp.TheVariants.{ByBlock, ByMapping, InContainer, InView}
use Rattle.reach_rules.specs.declared.naming.Object.TheVariants.{Newest}
use Rattle.reach_rules.specs.declared.naming.Namer.{Namer}
use Rattle.reach_rules.specs.declared.naming.Namer.TheVariants.{Whole, Kept}
use Rattle.reach_rules.specs.declared.naming.TreeKind.{TreeKind}
use Rattle.reach_rules.specs.declared.naming.TreeKind.TheVariants.{MapRecords, MapSnapshots, ExtentRefs, SnapMetadata, FreeQueue, Files}
use Rattle.reach_rules.specs.declared.naming.Expected.{Expected}
use Rattle.reach_rules.specs.declared.naming.Expected.TheVariants.{SpaceManager, ContainerMap, ReaperObject, ReapList, Jumpstart, VolumeIn, VolumeMap, ExtendedMetadata, SnapshotSuper, AddressBlock, InfoBlock, TreeRoot, TreeNode}
use Rattle.reach_rules.specs.declared.naming.Naming.{Naming}
use Rattle.reach_rules.specs.Naming.{naming}
use Rattle.reach_rules.specs.Resolved.{Found, is_node}
use Rattle.reach_rules.specs.Next.{roots, names, unless_zero, slot_namings, map_namings, live_view, past_view, view_namings, record_namings, snapshot_namings, snapshots_namings, records_of_snapshots, address_naming, addresses_in, address_namings, manager_namings, cib_naming, cibs_in, cab_namings, children_in, child_namings, node_namings, volume_namings}
use Rattle.reach_rules.specs.Live.{rooted, led, IsLive}
use Rattle.reach_rules.proofs.Nexts.{Each, each-in, each-append, each-map, each-if, each-unless, each-through, from-next}

-- a naming that is neither looked up in the container's map nor expects the volume of a slot
pub record IsOther (n : Naming) : Type 0 where
  pub how_not : n.how ≡ InContainer → ⊥
  pub expected_not : (slot : ℕ) → n.expected ≡ VolumeIn slot → ⊥

-- it is so by parts that differ
other : (namer : Namer) (at : ℕ) (e : Expected) (how : LookUp) (oid : ℕ) → (how ≡ InContainer → ⊥) → ((slot : ℕ) → e ≡ VolumeIn slot → ⊥) → IsOther (naming namer at e how oid)
other namer at e how oid a b = record { how_not = a; expected_not = b }

by_block : ◌≡◌ {A = LookUp} ByBlock InContainer → ⊥
by_block e = cc

by_mapping : ◌≡◌ {A = LookUp} ByMapping InContainer → ⊥
by_mapping e = cc

in_view : (view : ViewAt) → ◌≡◌ {A = LookUp} (InView view) InContainer → ⊥
in_view view e = cc

root-not : (kind : TreeKind) (slot : ℕ) → ◌≡◌ {A = Expected} (TreeRoot kind) (VolumeIn slot) → ⊥
root-not kind slot e = cc

node-not : (kind : TreeKind) (level slot : ℕ) → ◌≡◌ {A = Expected} (TreeNode kind level) (VolumeIn slot) → ⊥
node-not kind level slot e = cc

space-not : (slot : ℕ) → ◌≡◌ {A = Expected} SpaceManager (VolumeIn slot) → ⊥
space-not slot e = cc

container-not : (slot : ℕ) → ◌≡◌ {A = Expected} ContainerMap (VolumeIn slot) → ⊥
container-not slot e = cc

reaper-not : (slot : ℕ) → ◌≡◌ {A = Expected} ReaperObject (VolumeIn slot) → ⊥
reaper-not slot e = cc

list-not : (slot : ℕ) → ◌≡◌ {A = Expected} ReapList (VolumeIn slot) → ⊥
list-not slot e = cc

jump-not : (slot : ℕ) → ◌≡◌ {A = Expected} Jumpstart (VolumeIn slot) → ⊥
jump-not slot e = cc

map-not : (slot : ℕ) → ◌≡◌ {A = Expected} VolumeMap (VolumeIn slot) → ⊥
map-not slot e = cc

metadata-not : (slot : ℕ) → ◌≡◌ {A = Expected} ExtendedMetadata (VolumeIn slot) → ⊥
metadata-not slot e = cc

super-not : (view : ViewAt) (slot : ℕ) → ◌≡◌ {A = Expected} (SnapshotSuper view) (VolumeIn slot) → ⊥
super-not view slot e = cc

address-not : (i slot : ℕ) → ◌≡◌ {A = Expected} (AddressBlock i) (VolumeIn slot) → ⊥
address-not i slot e = cc

info-not : (i slot : ℕ) → ◌≡◌ {A = Expected} (InfoBlock i) (VolumeIn slot) → ⊥
info-not i slot e = cc

-- ---- what each object names
unless-other : (namer : Namer) (at : ℕ) (e : Expected) (how : LookUp) (oid : ℕ) → (how ≡ InContainer → ⊥) → ((slot : ℕ) → e ≡ VolumeIn slot → ⊥) → Each IsOther (unless_zero namer at e how oid)
unless-other namer at e how oid a b = each-unless IsOther namer at e how oid (other namer at e how oid a b)

child-others : (namer : Namer) (kind : TreeKind) (how : LookUp) (level i : ℕ) (oids : List ℕ) → (how ≡ InContainer → ⊥) → Each IsOther (child_namings namer kind how level i oids)
child-others namer kind how level i [] a = tt
child-others namer kind how level i (oid ∷ oids) a = (other namer i (TreeNode kind level) how oid a (node-not kind level), child-others namer kind how level (suc i) oids a)

node-others : (namer : Namer) (kind : TreeKind) (how : LookUp) (level : ℕ) (oids : List ℕ) → (how ≡ InContainer → ⊥) → Each IsOther (node_namings namer kind how level oids)
node-others namer kind how zero oids a = tt
node-others namer kind how (suc level) oids a = child-others namer kind how level 0 oids a

map-others : (namer : Namer) (bytes : List ℕ) → Each IsOther (map_namings namer bytes)
map-others namer bytes = (
  other namer 48 (TreeRoot MapRecords) ByBlock (maps.tree_of bytes) by_block (root-not MapRecords),
  unless-other namer 56 (TreeRoot MapSnapshots) ByBlock (maps.snap_tree_of bytes) by_block (root-not MapSnapshots),
)

view-others : (namer : Namer) (view : ViewAt) (bytes : List ℕ) → Each IsOther (view_namings namer view bytes)
view-others namer view bytes = (
  other namer 136 (TreeRoot (Files view.hashed)) (InView view) (volumes.root_oid_of bytes) (in_view view) (root-not (Files view.hashed)),
  unless-other namer 1000 ExtendedMetadata (InView view) (volumes.meta_ext_of bytes) (in_view view) metadata-not,
)

record-others : (view : ViewAt) (value : List ℕ) → Each IsOther (record_namings view value)
record-others view value = (
  other (Kept view) 8 (SnapshotSuper view) ByBlock _ by_block (super-not view),
  unless-other (Kept view) 0 (TreeRoot ExtentRefs) ByBlock (snap_extents_of value) by_block (root-not ExtentRefs),
)

snapshot-others : (slot : ℕ) (bytes : List ℕ) (i : ℕ) (pairs : List Pair) → Each IsOther (snapshots_namings slot bytes i pairs)
snapshot-others slot bytes i [] = tt
snapshot-others slot bytes i (pair ∷ pairs) =
    each-append IsOther (snapshot_namings slot bytes i pair) (snapshots_namings slot bytes (suc i) pairs)
    (each-if IsOther (is_snapshot_long pair) (record_namings (past_view slot bytes i pair) (bytes_in pair.value)) [] (record-others (past_view slot bytes i pair) (bytes_in pair.value)) tt)
    (snapshot-others slot bytes (suc i) pairs)

volume-others : (image : List ℕ) (seen : Seen) (slot : ℕ) (me : Namer) (bytes : List ℕ) → Each IsOther (volume_namings image seen slot me bytes)
volume-others image seen slot me bytes =
    let snaps = snapshots_namings slot bytes 0 (records_of_snapshots image (site_of seen) bytes) in
    let metadata = unless_zero me 152 (TreeRoot SnapMetadata) ByBlock (volumes.snaps_root_of bytes) in
    let extents = unless_zero me 144 (TreeRoot ExtentRefs) ByBlock (volumes.extents_root_of bytes) in (
      other me 128 VolumeMap ByBlock (volumes.omap_oid_of bytes) by_block map-not,
      each-append IsOther (view_namings me (live_view seen slot bytes) bytes) (extents ++ (metadata ++ snaps)) (view-others me (live_view seen slot bytes) bytes)
          (each-append IsOther extents (metadata ++ snaps) (unless-other me 144 (TreeRoot ExtentRefs) ByBlock (volumes.extents_root_of bytes) by_block (root-not ExtentRefs))
          (each-append IsOther metadata snaps (unless-other me 152 (TreeRoot SnapMetadata) ByBlock (volumes.snaps_root_of bytes) by_block (root-not SnapMetadata))
          (snapshot-others slot bytes 0 (records_of_snapshots image (site_of seen) bytes)))),
    )

address-others : (me : Namer) (manager : List ℕ) → Each IsOther (address_namings me manager)
address-others me manager =
    each-if IsOther (cabs_of manager == 0) (map (address_naming InfoBlock me manager) (addresses_in manager (cibs_of manager))) (map (address_naming AddressBlock me manager) (addresses_in manager (cabs_of manager)))
    (each-map IsOther (address_naming InfoBlock me manager) (addresses_in manager (cibs_of manager)) (λ i. record { how_not = by_block; expected_not = info-not i }))
    (each-map IsOther (address_naming AddressBlock me manager) (addresses_in manager (cabs_of manager)) (λ i. record { how_not = by_block; expected_not = address-not i }))

manager-others : (me : Namer) (manager : List ℕ) → Each IsOther (manager_namings me manager)
manager-others me manager =
    let pool = unless_zero me 208 (TreeRoot (FreeQueue Pool)) ByMapping (pool_queue_of manager) in
    let main = unless_zero me 248 (TreeRoot (FreeQueue Main)) ByMapping (main_queue_of manager) in
    each-append IsOther pool (main ++ address_namings me manager) (unless-other me 208 (TreeRoot (FreeQueue Pool)) ByMapping (pool_queue_of manager) by_mapping (root-not (FreeQueue Pool)))
    (each-append IsOther main (address_namings me manager) (unless-other me 248 (TreeRoot (FreeQueue Main)) ByMapping (main_queue_of manager) by_mapping (root-not (FreeQueue Main)))
    (address-others me manager))

cab-others : (image : List ℕ) (seen : Seen) (me : Namer) (i : ℕ) (cab : List ℕ) → (manager : List ℕ) → Each IsOther (cab_namings (site_of seen).block_size me manager i cab)
cab-others image seen me i cab manager = each-map IsOther (cib_naming me manager cab) (cibs_in (site_of seen).block_size manager i) (λ c. record { how_not = by_block; expected_not = info-not c })

-- what any object names, a node not being looked up in the container's map
names-others : (image : List ℕ) (seen : Seen) (how : LookUp) (e : Expected) (me : Namer) (bytes : List ℕ) → (is_node e ≡ true → how ≡ InContainer → ⊥) → Each IsOther (names image seen how e me bytes)
names-others image seen how SpaceManager me bytes a = manager-others me bytes
names-others image seen how ContainerMap me bytes a = map-others me bytes
names-others image seen how ReaperObject me bytes a = unless-other me 48 ReapList ByMapping (reaper_head_of bytes) by_mapping list-not
names-others image seen how ReapList me bytes a = unless-other me 32 ReapList ByMapping (reap_next_of bytes) by_mapping list-not
names-others image seen how Jumpstart me bytes a = tt
names-others image seen how (VolumeIn slot) me bytes a = volume-others image seen slot me bytes
names-others image seen how VolumeMap me bytes a = map-others me bytes
names-others image seen how ExtendedMetadata me bytes a = tt
names-others image seen how (SnapshotSuper view) me bytes a = view-others me view bytes
names-others image seen how (AddressBlock i) me bytes a = each-through IsOther (manager_of seen) (λ manager. cab_namings (site_of seen).block_size me manager i bytes) (cab-others image seen me i bytes)
names-others image seen how (InfoBlock i) me bytes a = tt
names-others image seen how (TreeRoot kind) me bytes a = node-others me kind how (level_of bytes) (children_in kind bytes) (a refl)
names-others image seen how (TreeNode kind level) me bytes a = node-others me kind how level (children_in kind bytes) (a refl)

-- ---- what is live
-- the namings of slots
abbrev pub of_slots : Seen → List Naming
of_slots seen = flat_map (slot_namings seen.nx) (range_with_len 0 slots)

-- a naming of a slot expects the slot's volume
in-unless : (namer : Namer) (at : ℕ) (e : Expected) (how : LookUp) (oid : ℕ) (n : Naming) → In n (unless_zero namer at e how oid) → n.expected ≡ e
in-unless namer at e how oid n h = each-in (λ (m : Naming). m.expected ≡ e) (unless_zero namer at e how oid) n (each-unless (λ (m : Naming). m.expected ≡ e) namer at e how oid refl) h

slot-expected : (seen : Seen) (n : Naming) → In n (of_slots seen) → (slot : ℕ) × (n.expected ≡ VolumeIn slot)
slot-expected seen n h =
    let t = from-flat_map (slot_namings seen.nx) n (range_with_len 0 slots) h in
    (t.0, in-unless (Whole Newest) (184 + 8 * t.0) (VolumeIn t.0) InContainer (fs_oid_of seen.nx t.0) n t.1.1)

root-or : (seen : Seen) (n : Naming) → In n (roots seen.nx) → In n (of_slots seen) ⊎ IsOther n
unfolding roots
root-or seen n h =
    let Goal : Type 0 = In n (of_slots seen) ⊎ IsOther n in
    let jump : List Naming = unless_zero (Whole Newest) 1272 Jumpstart ByBlock (jumpstart_of seen.nx) in
    let reaper : List Naming = unless_zero (Whole Newest) 168 ReaperObject ByMapping (reaper_oid_of seen.nx) in
    elim h as (λ _. Goal) [
      | inl e ↦ inr (subst IsOther (sym e) (record { how_not = by_mapping; expected_not = space-not }))
      | inr k ↦ elim k as (λ _. Goal) [
        | inl e ↦ inr (subst IsOther (sym e) (record { how_not = by_block; expected_not = container-not }))
        | inr l ↦ elim (in-append n reaper (jump ++ of_slots seen) l) as (λ _. Goal) [
          | inl m ↦ inr (each-in IsOther reaper n (unless-other (Whole Newest) 168 ReaperObject ByMapping (reaper_oid_of seen.nx) by_mapping reaper-not) m)
          | inr m ↦ elim (in-append n jump (of_slots seen) m) as (λ _. Goal) [
            | inl o ↦ inr (each-in IsOther jump n (unless-other (Whole Newest) 1272 Jumpstart ByBlock (jumpstart_of seen.nx) by_block jump-not) o)
            | inr o ↦ inl o
          ]
        ]
      ]
    ]

node-volume : (e : Expected) (slot : ℕ) → e ≡ VolumeIn slot → is_node e ≡ true → ⊥
node-volume e slot s t = let z : true ≡ false = sym t ∙ ap is_node s in cc

-- no node that is named is looked up in the container's map
never-node : (seen : Seen) (n : Naming) → In n (of_slots seen) ⊎ IsOther n → is_node n.expected ≡ true → n.how ≡ InContainer → ⊥
never-node seen n (inl h) node how = let t = slot-expected seen n h in node-volume n.expected t.0 t.1 node
never-node seen n (inr o) node how = o.how_not how

-- a live naming is a slot's, or another
pub slot-or : (image : List ℕ) (seen : Seen) (n : Naming) → IsLive image seen n → In n (of_slots seen) ⊎ IsOther n
slot-or image seen n (rooted _ h) = root-or seen n h
slot-or image seen n (led m _ live h) =
    let l = from-next image seen m n h in
    let f : Found = l.object in
    inr (each-in IsOther (names image seen m.how m.expected (Whole f.object) f.bytes) n (names-others image seen m.how m.expected (Whole f.object) f.bytes (never-node seen m (slot-or image seen m live))) l.names)

-- what is looked up in the container's map is a slot's
pub in-slots : (image : List ℕ) (seen : Seen) (n : Naming) → IsLive image seen n → n.how ≡ InContainer → In n (of_slots seen)
in-slots image seen n live how = elim (slot-or image seen n live) as (λ _. In n (of_slots seen)) [ inl h ↦ h | inr o ↦ absurd (o.how_not how) ]

-- and so is the volume of a slot
pub volume-slots : (image : List ℕ) (seen : Seen) (n : Naming) (slot : ℕ) → IsLive image seen n → n.expected ≡ VolumeIn slot → In n (of_slots seen)
volume-slots image seen n slot live e = elim (slot-or image seen n live) as (λ _. In n (of_slots seen)) [ inl h ↦ h | inr o ↦ absurd (o.expected_not slot e) ]
