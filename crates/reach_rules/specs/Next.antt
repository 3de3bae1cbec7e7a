-- What a sound object names.
use Rattle.std.specs.Prelude.{ℕ, zero, suc, ◌+◌, ◌*◌, ◌/◌, ◌%◌, Bool, true, false, ◌&&◌, ◌==◌, List, [], ◌∷◌, ◌++◌, map, filter, flat_map, Ok, Err, if◌then◌else◌}
use Rattle.std.specs.List.{range_with_len}
use Rattle.apfs_model.specs.Lists.{through}
use Rattle.bt_node.specs.Entries.{Pair, bytes_in, children_of}
use Rattle.bt_node.specs.Node.{level_of}
use Rattle.obj_base.specs.declared.site.Site.{Site}
use Rattle.bt_keys.specs.Shapes.{omap_shape, omap_snap_shape, queue_shape, ext_shape, snap_shape, fs_shape, fs_plain_shape}
use Rattle.nx_block.specs.Super.{space_oid_of, omap_oid_of, reaper_oid_of, jumpstart_of, fs_oid_of, slots}
use Rattle.nx_block.specs.Reaper.{reaper_head_of, reap_next_of}
use Rattle.nx_ring.specs.Checkpoint.{Seen, site_of}
use Rattle.omap_map.specs.Fields as maps
use Rattle.fs_name.specs.Normal.{names_of, are_hashed}
use Rattle.vol_view.specs.Fields as volumes
use Rattle.vol_view.specs.SnapRecords.{metadata_pairs, snapshot_pairs, snap_xid, snap_extents_of, snap_super_of, is_snapshot_long}
use Rattle.space_map.specs.Fields.{cabs_of, cibs_of, cab_cibs_of, addresses_of, pool_queue_of, main_queue_of}
use Rattle.space_map.specs.Geometry.{has_address, has_cib_place}
use Rattle.space_map.specs.Blocks.{manager_of, address_at, cab_address_at}
use Rattle.space_pool.specs.declared.entry.Queue.TheVariants.{Pool, Main}
use Rattle.reach_rules.specs.Naming.{ViewAt, LookUp, ByBlock, ByMapping, InContainer, InView, Newest, Namer, Whole, Kept, TreeKind, MapRecords, MapSnapshots, ExtentRefs, SnapMetadata, FreeQueue, Files, Expected, SpaceManager, ContainerMap, ReaperObject, ReapList, Jumpstart, VolumeIn, VolumeMap, ExtendedMetadata, SnapshotSuper, AddressBlock, InfoBlock, TreeRoot, TreeNode, Naming, naming}
use Rattle.reach_rules.specs.Resolved.{Found, resolved}
use Rattle.reach_rules.specs.Tested.{Answer, tested}

-- a naming by a field in which 0 names nothing
abbrev pub unless_zero : Namer → ℕ → Expected → LookUp → ℕ → List Naming
unless_zero namer at expected how oid = if oid == 0 then [] else naming namer at expected how oid ∷ []

-- the newest superblock names the volume of a slot
abbrev pub slot_namings : List ℕ → ℕ → List Naming
slot_namings nx slot = unless_zero (Whole Newest) (184 + 8 * slot) (VolumeIn slot) InContainer (fs_oid_of nx slot)

-- what the newest superblock names: the space manager, the container's object map, the reaper, the jumpstart, and the volumes
unfoldable pub roots : List ℕ → List Naming
roots nx =
    naming (Whole Newest) 152 SpaceManager ByMapping (space_oid_of nx)
    ∷ naming (Whole Newest) 160 ContainerMap ByBlock (omap_oid_of nx)
    ∷ unless_zero (Whole Newest) 168 ReaperObject ByMapping (reaper_oid_of nx)
    ++ (unless_zero (Whole Newest) 1272 Jumpstart ByBlock (jumpstart_of nx)
    ++ flat_map (slot_namings nx) (range_with_len 0 slots))

-- an object map names the roots of its two trees
abbrev pub map_namings : Namer → List ℕ → List Naming
map_namings namer bytes =
    naming namer 48 (TreeRoot MapRecords) ByBlock (maps.tree_of bytes)
    ∷ unless_zero namer 56 (TreeRoot MapSnapshots) ByBlock (maps.snap_tree_of bytes)

-- the live view of the volume in a slot, by its superblock
abbrev pub live_view : Seen → ℕ → List ℕ → ViewAt
live_view seen slot bytes = record {
  slot = slot;
  place = 0;
  xid = seen.line.xid;
  map = volumes.omap_oid_of bytes;
  hashed = are_hashed (names_of (volumes.incompat_of bytes));
}

-- the view of a snapshot of the volume in a slot, by the place of its record among those of snapshots; map and names are the live volume's
abbrev pub past_view : ℕ → List ℕ → ℕ → Pair → ViewAt
past_view slot bytes i pair = record {
  slot = slot;
  place = suc i;
  xid = snap_xid pair;
  map = volumes.omap_oid_of bytes;
  hashed = are_hashed (names_of (volumes.incompat_of bytes));
}

-- a volume's or a snapshot's superblock names the root of its view's files and the extended metadata
abbrev pub view_namings : Namer → ViewAt → List ℕ → List Naming
view_namings namer view bytes =
    naming namer 136 (TreeRoot (Files view.hashed)) (InView view) (volumes.root_oid_of bytes)
    ∷ unless_zero namer 1000 ExtendedMetadata (InView view) (volumes.meta_ext_of bytes)

-- a snapshot's record names the snapshot's superblock and the root of its extent references
abbrev pub record_namings : ViewAt → List ℕ → List Naming
record_namings view value =
    naming (Kept view) 8 (SnapshotSuper view) ByBlock (snap_super_of value)
    ∷ unless_zero (Kept view) 0 (TreeRoot ExtentRefs) ByBlock (snap_extents_of value)

-- a record that is too short names nothing
abbrev pub snapshot_namings : ℕ → List ℕ → ℕ → Pair → List Naming
snapshot_namings slot bytes i pair = if is_snapshot_long pair then record_namings (past_view slot bytes i pair) (bytes_in pair.value) else []

-- what the records of a volume's snapshots name, the first of them having place i
abbrev pub snapshots_namings : ℕ → List ℕ → ℕ → List Pair → List Naming
snapshots_namings slot bytes i [] = []
snapshots_namings slot bytes i (pair ∷ pairs) = snapshot_namings slot bytes i pair ++ snapshots_namings slot bytes (suc i) pairs

-- the records of the snapshots of a volume, by its superblock
abbrev pub records_of_snapshots : List ℕ → Site → List ℕ → List Pair
records_of_snapshots image site bytes = snapshot_pairs (metadata_pairs image site (volumes.snaps_root_of bytes))

-- a volume's superblock names its object map, the roots of its physical trees, and what it names in its live view; its
-- snapshots' records name what they do
abbrev pub volume_namings : List ℕ → Seen → ℕ → Namer → List ℕ → List Naming
volume_namings image seen slot namer bytes =
    naming namer 128 VolumeMap ByBlock (volumes.omap_oid_of bytes)
    ∷ view_namings namer (live_view seen slot bytes) bytes
    ++ (unless_zero namer 144 (TreeRoot ExtentRefs) ByBlock (volumes.extents_root_of bytes)
    ++ (unless_zero namer 152 (TreeRoot SnapMetadata) ByBlock (volumes.snaps_root_of bytes)
    ++ snapshots_namings slot bytes 0 (records_of_snapshots image (site_of seen) bytes)))

-- the manager's address i names a chunk-info address block, or a chunk-info block
abbrev pub address_naming : (ℕ → Expected) → Namer → List ℕ → ℕ → Naming
address_naming expected namer manager i = naming namer (addresses_of manager + 8 * i) (expected i) ByBlock (address_at manager i)

-- the indexes of the addresses that lie in the manager, of so many
abbrev pub addresses_in : List ℕ → ℕ → List ℕ
addresses_in manager n = filter (has_address manager) (range_with_len 0 n)

-- the manager names the chunk-info address blocks, or the chunk-info blocks where there are none of those
abbrev pub address_namings : Namer → List ℕ → List Naming
address_namings namer manager =
    if cabs_of manager == 0 then map (address_naming InfoBlock namer manager) (addresses_in manager (cibs_of manager))
    else map (address_naming AddressBlock namer manager) (addresses_in manager (cabs_of manager))

-- the manager names these, and the roots of the free queues of the pool and of the main device
abbrev pub manager_namings : Namer → List ℕ → List Naming
manager_namings namer manager =
    unless_zero namer 208 (TreeRoot (FreeQueue Pool)) ByMapping (pool_queue_of manager)
    ++ (unless_zero namer 248 (TreeRoot (FreeQueue Main)) ByMapping (main_queue_of manager)
    ++ address_namings namer manager)

-- chunk-info block c has its place in chunk-info address block i
abbrev pub is_cib_of : ℕ → List ℕ → ℕ → ℕ → Bool
is_cib_of block_size manager i c = (c / cab_cibs_of manager == i) && has_cib_place block_size manager c

-- the chunk-info blocks that have their places in chunk-info address block i
abbrev pub cibs_in : ℕ → List ℕ → ℕ → List ℕ
cibs_in block_size manager i = filter (is_cib_of block_size manager i) (range_with_len 0 (cibs_of manager))

-- a chunk-info address block names chunk-info block c at its place
abbrev pub cib_naming : Namer → List ℕ → List ℕ → ℕ → Naming
cib_naming namer manager cab c = naming namer (40 + 8 * (c % cab_cibs_of manager)) (InfoBlock c) ByBlock (cab_address_at cab (c % cab_cibs_of manager))

-- chunk-info address block i names the chunk-info blocks that have their places in it
abbrev pub cab_namings : ℕ → Namer → List ℕ → ℕ → List ℕ → List Naming
cab_namings block_size namer manager i cab = map (cib_naming namer manager cab) (cibs_in block_size manager i)

-- the children that a node of a tree names, by entry
abbrev pub children_in : TreeKind → List ℕ → List ℕ
children_in MapRecords bytes = children_of omap_shape bytes
children_in MapSnapshots bytes = children_of omap_snap_shape bytes
children_in ExtentRefs bytes = children_of ext_shape bytes
children_in SnapMetadata bytes = children_of snap_shape bytes
children_in (FreeQueue which) bytes = children_of queue_shape bytes
children_in (Files true) bytes = children_of fs_shape bytes
children_in (Files false) bytes = children_of fs_plain_shape bytes

-- a node names children of a level, the first of them by entry i, looked up as the node was
abbrev pub child_namings : Namer → TreeKind → LookUp → ℕ → ℕ → List ℕ → List Naming
child_namings namer kind how level i [] = []
child_namings namer kind how level i (oid ∷ oids) = naming namer i (TreeNode kind level) how oid ∷ child_namings namer kind how level (suc i) oids

-- a node above level 0 names its children, one level lower
abbrev pub node_namings : Namer → TreeKind → LookUp → ℕ → List ℕ → List Naming
node_namings namer kind how zero oids = []
node_namings namer kind how (suc level) oids = child_namings namer kind how level 0 oids

-- what a sound object names, by what was expected of it and how its id was looked up
abbrev pub names : List ℕ → Seen → LookUp → Expected → Namer → List ℕ → List Naming
names image seen how SpaceManager namer bytes = manager_namings namer bytes
names image seen how ContainerMap namer bytes = map_namings namer bytes
names image seen how ReaperObject namer bytes = unless_zero namer 48 ReapList ByMapping (reaper_head_of bytes)
names image seen how ReapList namer bytes = unless_zero namer 32 ReapList ByMapping (reap_next_of bytes)
names image seen how Jumpstart namer bytes = []
names image seen how (VolumeIn slot) namer bytes = volume_namings image seen slot namer bytes
names image seen how VolumeMap namer bytes = map_namings namer bytes
names image seen how ExtendedMetadata namer bytes = []
names image seen how (SnapshotSuper view) namer bytes = view_namings namer view bytes
names image seen how (AddressBlock i) namer bytes = through (manager_of seen) (λ manager. cab_namings (site_of seen).block_size namer manager i bytes)
names image seen how (InfoBlock i) namer bytes = []
names image seen how (TreeRoot kind) namer bytes = node_namings namer kind how (level_of bytes) (children_in kind bytes)
names image seen how (TreeNode kind level) namer bytes = node_namings namer kind how level (children_in kind bytes)

-- what an object names where it passes its tests, and nothing where it doesn't
abbrev pub names_if : List ℕ → Seen → Naming → Found → Answer → List Naming
names_if image seen n f (Ok _) = names image seen n.how n.expected (Whole f.object) f.bytes
names_if image seen n f (Err bad) = []

-- what the object that a naming names names in turn
unfoldable pub next : List ℕ → Seen → Naming → List Naming
next image seen n = through (resolved image seen n) (λ (f : Found). names_if image seen n f (tested (site_of seen) n.expected n.oid f.bytes))
