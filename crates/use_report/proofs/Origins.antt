-- Who names what is looked up in a view, and who names the superblock of a snapshot.
use Rattle.std.proofs.Common.{◌≡◌, ℕ, zero, suc, ◌+◌, ◌*◌, Bool, true, false, ◌==◌, List, [], ◌∷◌, ◌++◌, map, ◌⊎◌, inl, inr, refl, ap, sym, ◌∙◌}
use Rattle.std.specs.List.{flat_map, range_with_len}
use Rattle.apfs_model.proofs.BoolTests.{clash}
use Rattle.bt_node.specs.Entries.{Pair, bytes_in}
use Rattle.bt_node.specs.Node.{level_of}
use Rattle.nx_block.specs.Super.{reaper_oid_of, jumpstart_of, fs_oid_of, slots}
use Rattle.nx_block.specs.Reaper.{reaper_head_of, reap_next_of}
use Rattle.nx_ring.specs.Checkpoint.{Seen, site_of}
use Rattle.omap_map.specs.Fields as maps
use Rattle.vol_view.specs.Fields as volumes
use Rattle.vol_view.specs.SnapRecords.{is_snapshot_long, snap_extents_of}
use Rattle.space_map.specs.Fields.{cabs_of, cibs_of, pool_queue_of, main_queue_of}
use Rattle.space_map.specs.Blocks.{manager_of}
use Rattle.space_pool.specs.declared.entry.Queue.TheVariants.{Pool, Main}
use Rattle.reach_rules.specs.declared.naming.ViewAt.{ViewAt}
use Rattle.reach_rules.specs.declared.naming.LookUp.{LookUp}
use Rattle.reach_rules.specs.declared.naming.LookUp.TheVariants.{ByBlock, ByMapping, InContainer, InView}
use Rattle.reach_rules.specs.declared.naming.Object.TheVariants.{Newest}
use Rattle.reach_rules.specs.declared.naming.Namer.{Namer}
use Rattle.reach_rules.specs.declared.naming.Namer.TheVariants.{Whole, Kept}
use Rattle.reach_rules.specs.declared.naming.TreeKind.{TreeKind}
use Rattle.reach_rules.specs.declared.naming.TreeKind.TheVariants.{MapRecords, MapSnapshots, ExtentRefs, SnapMetadata, FreeQueue, Files}
use Rattle.reach_rules.specs.declared.naming.Expected.{Expected}
use Rattle.reach_rules.specs.declared.naming.Expected.TheVariants.{SpaceManager, ContainerMap, ReaperObject, ReapList, Jumpstart, VolumeIn, VolumeMap, ExtendedMetadata, SnapshotSuper, AddressBlock, InfoBlock, TreeRoot, TreeNode}
use Rattle.reach_rules.specs.declared.naming.Naming.{Naming}
use Rattle.reach_rules.specs.Naming.{naming}
use Rattle.reach_rules.specs.Resolved.{is_node}
use Rattle.reach_rules.specs.Next.{roots, names, unless_zero, slot_namings, map_namings, live_view, past_view, view_namings, record_namings, snapshot_namings, snapshots_namings, records_of_snapshots, address_naming, addresses_in, address_namings, manager_namings, cib_naming, cibs_in, cab_namings, children_in, child_namings, node_namings, volume_namings}
use Rattle.reach_rules.proofs.Nexts.{Each, each-append, each-map, each-flat, each-if, each-unless, each-through}
use Rattle.reach_gather.specs.ViewParts.{is_in_view}

-- the superblock of a snapshot is expected
abbrev pub is_past_super : Expected → Bool
is_past_super (SnapshotSuper view) = true
is_past_super e = false

-- an object that is expected, and is looked up so, names what is looked up in a view: it is the view's volume, the superblock of the view's snapshot, or a node that is looked up in that view
abbrev pub NamesIn : ViewAt → LookUp → Expected → Type 0
NamesIn at how e = (e ≡ VolumeIn at.slot) ⊎ ((e ≡ SnapshotSuper at) ⊎ ((how ≡ InView at) × (is_node e ≡ true)))

-- what such an object names
pub record IsFrom (how : LookUp) (e : Expected) (n : Naming) : Type 0 where
  pub viewed : (at : ViewAt) → n.how ≡ InView at → NamesIn at how e
  pub kept : (at : ViewAt) → n.expected ≡ SnapshotSuper at → e ≡ VolumeIn at.slot

-- a naming that is neither looked up in a view nor of the superblock of a snapshot
pub record IsNeither (n : Naming) : Type 0 where
  pub outside : is_in_view n.how ≡ false
  pub no_super : is_past_super n.expected ≡ false

neither-from : (how : LookUp) (e : Expected) (n : Naming) → IsNeither n → IsFrom how e n
neither-from how e n x = record {
  viewed = λ at h. clash (is_in_view n.how) (ap is_in_view h) x.outside;
  kept = λ at h. clash (is_past_super n.expected) (ap is_past_super h) x.no_super;
}

each-then : {X : Type 0} (P Q : X → Type 0) (xs : List X) → ((x : X) → P x → Q x) → Each P xs → Each Q xs
each-then P Q [] f e = tt
each-then P Q (x ∷ xs) f e = (f x e.0, each-then P Q xs f e.1)

all-neither : (how : LookUp) (e : Expected) (ns : List Naming) → Each IsNeither ns → Each (IsFrom how e) ns
all-neither how e ns x = each-then IsNeither (IsFrom how e) ns (neither-from how e) x

neither : (namer : Namer) (at : ℕ) (e : Expected) (how : LookUp) (oid : ℕ) → is_in_view how ≡ false → is_past_super e ≡ false → IsNeither (naming namer at e how oid)
neither namer at e how oid a b = record { outside = a; no_super = b }

unless-neither : (namer : Namer) (at : ℕ) (e : Expected) (how : LookUp) (oid : ℕ) → is_in_view how ≡ false → is_past_super e ≡ false → Each IsNeither (unless_zero namer at e how oid)
unless-neither namer at e how oid a b = each-unless IsNeither namer at e how oid (neither namer at e how oid a b)

-- ---- what each object names
children-from : (namer : Namer) (kind : TreeKind) (how : LookUp) (e : Expected) (level i : ℕ) (oids : List ℕ) → is_node e ≡ true → Each (IsFrom how e) (child_namings namer kind how level i oids)
children-from namer kind how e level i [] node = tt
children-from namer kind how e level i (oid ∷ oids) node = (
  record { viewed = λ at h. inr (inr (h, node)); kept = λ at h. clash (is_past_super (TreeNode kind level)) (ap is_past_super h) refl },
  children-from namer kind how e level (suc i) oids node,
)

nodes-from : (namer : Namer) (kind : TreeKind) (how : LookUp) (e : Expected) (level : ℕ) (oids : List ℕ) → is_node e ≡ true → Each (IsFrom how e) (node_namings namer kind how level oids)
nodes-from namer kind how e zero oids node = tt
nodes-from namer kind how e (suc level) oids node = children-from namer kind how e level 0 oids node

map-neither : (namer : Namer) (bytes : List ℕ) → Each IsNeither (map_namings namer bytes)
map-neither namer bytes = (neither namer 48 (TreeRoot MapRecords) ByBlock (maps.tree_of bytes) refl refl, unless-neither namer 56 (TreeRoot MapSnapshots) ByBlock (maps.snap_tree_of bytes) refl refl)

one-view : (v w : ViewAt) → ◌≡◌ {A = LookUp} (InView v) (InView w) → v ≡ w
one-view v w e = cc

one-super : (v w : ViewAt) → ◌≡◌ {A = Expected} (SnapshotSuper v) (SnapshotSuper w) → v ≡ w
one-super v w e = cc

view-from : (how : LookUp) (e : Expected) (namer : Namer) (view : ViewAt) (bytes : List ℕ) → ((at : ViewAt) → view ≡ at → NamesIn at how e) → Each (IsFrom how e) (view_namings namer view bytes)
view-from how e namer view bytes f = (
  record { viewed = λ at h. f at (one-view view at h); kept = λ at h. clash (is_past_super (TreeRoot (Files view.hashed))) (ap is_past_super h) refl },
  each-unless (IsFrom how e) namer 1000 ExtendedMetadata (InView view) (volumes.meta_ext_of bytes)
      (record { viewed = λ at h. f at (one-view view at h); kept = λ at h. clash (is_past_super ExtendedMetadata) (ap is_past_super h) refl }),
)

record-from : (how : LookUp) (slot : ℕ) (view : ViewAt) (value : List ℕ) → view.slot ≡ slot → Each (IsFrom how (VolumeIn slot)) (record_namings view value)
record-from how slot view value s = (
  record {
    viewed = λ at h. clash (is_in_view ByBlock) (ap is_in_view h) refl;
    kept = λ at h. ap VolumeIn (sym s ∙ ap (λ (v : ViewAt). v.slot) (one-super view at h));
  },
  all-neither how (VolumeIn slot) (unless_zero (Kept view) 0 (TreeRoot ExtentRefs) ByBlock (snap_extents_of value)) (unless-neither (Kept view) 0 (TreeRoot ExtentRefs) ByBlock (snap_extents_of value) refl refl),
)

snapshots-from : (how : LookUp) (slot : ℕ) (bytes : List ℕ) (i : ℕ) (pairs : List Pair) → Each (IsFrom how (VolumeIn slot)) (snapshots_namings slot bytes i pairs)
snapshots-from how slot bytes i [] = tt
snapshots-from how slot bytes i (pair ∷ pairs) =
    let P : Naming → Type 0 = IsFrom how (VolumeIn slot) in
    each-append P (snapshot_namings slot bytes i pair) (snapshots_namings slot bytes (suc i) pairs)
    (each-if P (is_snapshot_long pair) (record_namings (past_view slot bytes i pair) (bytes_in pair.value)) [] (record-from how slot (past_view slot bytes i pair) (bytes_in pair.value) refl) tt)
    (snapshots-from how slot bytes (suc i) pairs)

volume-from : (image : List ℕ) (seen : Seen) (how : LookUp) (slot : ℕ) (me : Namer) (bytes : List ℕ) → Each (IsFrom how (VolumeIn slot)) (volume_namings image seen slot me bytes)
volume-from image seen how slot me bytes =
    let P : Naming → Type 0 = IsFrom how (VolumeIn slot) in
    let view : ViewAt = live_view seen slot bytes in
    let snaps : List Naming = snapshots_namings slot bytes 0 (records_of_snapshots image (site_of seen) bytes) in
    let metadata : List Naming = unless_zero me 152 (TreeRoot SnapMetadata) ByBlock (volumes.snaps_root_of bytes) in
    let extents : List Naming = unless_zero me 144 (TreeRoot ExtentRefs) ByBlock (volumes.extents_root_of bytes) in (
      neither-from how (VolumeIn slot) (naming me 128 VolumeMap ByBlock (volumes.omap_oid_of bytes)) (neither me 128 VolumeMap ByBlock (volumes.omap_oid_of bytes) refl refl),
      each-append P (view_namings me view bytes) (extents ++ (metadata ++ snaps)) (view-from how (VolumeIn slot) me view bytes (λ at e. inl (ap (λ (v : ViewAt). VolumeIn v.slot) e)))
          (each-append P extents (metadata ++ snaps) (all-neither how (VolumeIn slot) extents (unless-neither me 144 (TreeRoot ExtentRefs) ByBlock (volumes.extents_root_of bytes) refl refl))
          (each-append P metadata snaps (all-neither how (VolumeIn slot) metadata (unless-neither me 152 (TreeRoot SnapMetadata) ByBlock (volumes.snaps_root_of bytes) refl refl))
          (snapshots-from how slot bytes 0 (records_of_snapshots image (site_of seen) bytes)))),
    )

address-neither : (me : Namer) (manager : List ℕ) → Each IsNeither (address_namings me manager)
address-neither me manager =
    each-if IsNeither (cabs_of manager == 0) (map (address_naming InfoBlock me manager) (addresses_in manager (cibs_of manager))) (map (address_naming AddressBlock me manager) (addresses_in manager (cabs_of manager)))
    (each-map IsNeither (address_naming InfoBlock me manager) (addresses_in manager (cibs_of manager)) (λ i. record { outside = refl; no_super = refl }))
    (each-map IsNeither (address_naming AddressBlock me manager) (addresses_in manager (cabs_of manager)) (λ i. record { outside = refl; no_super = refl }))

manager-neither : (me : Namer) (manager : List ℕ) → Each IsNeither (manager_namings me manager)
manager-neither me manager =
    let pool : List Naming = unless_zero me 208 (TreeRoot (FreeQueue Pool)) ByMapping (pool_queue_of manager) in
    let main : List Naming = unless_zero me 248 (TreeRoot (FreeQueue Main)) ByMapping (main_queue_of manager) in
    each-append IsNeither pool (main ++ address_namings me manager) (unless-neither me 208 (TreeRoot (FreeQueue Pool)) ByMapping (pool_queue_of manager) refl refl)
    (each-append IsNeither main (address_namings me manager) (unless-neither me 248 (TreeRoot (FreeQueue Main)) ByMapping (main_queue_of manager) refl refl)
    (address-neither me manager))

cab-neither : (seen : Seen) (me : Namer) (i : ℕ) (cab manager : List ℕ) → Each IsNeither (cab_namings (site_of seen).block_size me manager i cab)
cab-neither seen me i cab manager = each-map IsNeither (cib_naming me manager cab) (cibs_in (site_of seen).block_size manager i) (λ c. record { outside = refl; no_super = refl })

-- what any object names
pub names-from : (image : List ℕ) (seen : Seen) (how : LookUp) (e : Expected) (me : Namer) (bytes : List ℕ) → Each (IsFrom how e) (names image seen how e me bytes)
names-from image seen how SpaceManager me bytes = all-neither how SpaceManager (manager_namings me bytes) (manager-neither me bytes)
names-from image seen how ContainerMap me bytes = all-neither how ContainerMap (map_namings me bytes) (map-neither me bytes)
names-from image seen how ReaperObject me bytes = all-neither how ReaperObject (unless_zero me 48 ReapList ByMapping (reaper_head_of bytes)) (unless-neither me 48 ReapList ByMapping (reaper_head_of bytes) refl refl)
names-from image seen how ReapList me bytes = all-neither how ReapList (unless_zero me 32 ReapList ByMapping (reap_next_of bytes)) (unless-neither me 32 ReapList ByMapping (reap_next_of bytes) refl refl)
names-from image seen how (VolumeIn slot) me bytes = volume-from image seen how slot me bytes
names-from image seen how VolumeMap me bytes = all-neither how VolumeMap (map_namings me bytes) (map-neither me bytes)
names-from image seen how (SnapshotSuper view) me bytes = view-from how (SnapshotSuper view) me view bytes (λ at e. inr (inl (ap SnapshotSuper e)))
names-from image seen how (AddressBlock i) me bytes = each-through (IsFrom how (AddressBlock i)) (manager_of seen) (λ manager. cab_namings (site_of seen).block_size me manager i bytes) (λ manager. all-neither how (AddressBlock i) (cab_namings (site_of seen).block_size me manager i bytes) (cab-neither seen me i bytes manager))
names-from image seen how (TreeRoot kind) me bytes = nodes-from me kind how (TreeRoot kind) (level_of bytes) (children_in kind bytes) refl
names-from image seen how (TreeNode kind level) me bytes = nodes-from me kind how (TreeNode kind level) level (children_in kind bytes) refl
names-from image seen how e me bytes = tt

-- the newest superblock names neither
pub roots-neither : (seen : Seen) → Each IsNeither (roots seen.nx)
unfolding roots
roots-neither seen =
    let jump : List Naming = unless_zero (Whole Newest) 1272 Jumpstart ByBlock (jumpstart_of seen.nx) in
    let reaper : List Naming = unless_zero (Whole Newest) 168 ReaperObject ByMapping (reaper_oid_of seen.nx) in
    let of_slots : List Naming = flat_map (slot_namings seen.nx) (range_with_len 0 slots) in (
      record { outside = refl; no_super = refl },
      (
        record { outside = refl; no_super = refl },
        each-append IsNeither reaper (jump ++ of_slots) (unless-neither (Whole Newest) 168 ReaperObject ByMapping (reaper_oid_of seen.nx) refl refl)
            (each-append IsNeither jump of_slots (unless-neither (Whole Newest) 1272 Jumpstart ByBlock (jumpstart_of seen.nx) refl refl)
            (each-flat IsNeither (slot_namings seen.nx) (range_with_len 0 slots) (λ slot. unless-neither (Whole Newest) (184 + 8 * slot) (VolumeIn slot) InContainer (fs_oid_of seen.nx slot) refl refl))),
      ),
    )
