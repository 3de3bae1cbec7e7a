-- A volume: what its superblock, its object map and its snapshots tell.
use Rattle.std.specs.Prelude.{ℕ, Bool, ◌&&◌, List, [], map, filter, None, is_some, if◌then◌else◌}
use Rattle.apfs_model.specs.Blocks.{in_container}
use Rattle.bt_node.specs.Entries.{Pair, bytes_in}
use Rattle.obj_base.specs.declared.site.Site.{Site}
use Rattle.bt_cursor.specs.declared.step.Step.{Step}
use Rattle.fs_name.specs.declared.naming.Names.{Names}
use Rattle.fs_name.specs.Normal.{names_of}
use Rattle.omap_map.specs.Maps.{Contents, contents_of, is_whole_map}
use Rattle.vol_view.specs.Fields as field
use Rattle.vol_view.specs.Heads.{super_in, is_super}
use Rattle.vol_view.specs.SnapRecords.{metadata_pairs, metadata_steps, snapshot_pairs, snap_xid, snap_created_of, snap_super_of, snap_extents_of, snapshot_name, is_snapshot_long}
use Rattle.vol_view.specs.declared.head.VolHead.{VolHead}
use Rattle.vol_view.specs.declared.volume.Snapshot.{Snapshot}

-- the superblock of a volume
abbrev pub super_of : List ℕ → Site → VolHead → List ℕ
super_of image site head = super_in image site head.block

-- the block of a volume's object map, as its superblock gives it
abbrev pub map_block_of : List ℕ → Site → VolHead → ℕ
map_block_of image site head = field.omap_oid_of (super_of image site head)

-- the records of a volume's snapshot metadata tree
abbrev pub metadata_of : List ℕ → Site → VolHead → List Pair
metadata_of image site head = metadata_pairs image site (field.snaps_root_of (super_of image site head))

-- the steps of that tree
abbrev pub metadata_steps_of : List ℕ → Site → VolHead → List Step
metadata_steps_of image site head = metadata_steps image site (field.snaps_root_of (super_of image site head))

-- a map in which nothing is found
abbrev pub empty_map : Contents
empty_map = record { records = []; snapshots = []; snap_count = 0; block = 0; tree = 0; snap_tree = 0; steps = []; snap_steps = [] }

-- what the map in a block has; through a map that isn't whole nothing is found
unfoldable pub map_or_empty : List ℕ → Site → ℕ → Contents
map_or_empty image site block = if is_whole_map image site block then contents_of image site block else empty_map

-- the snapshot of a record; its root tree and its extended metadata stand in its own superblock
abbrev pub snapshot_by : Pair → List ℕ → List ℕ → Snapshot
snapshot_by pair value bytes = record {
  xid = snap_xid pair;
  created = snap_created_of value;
  name = snapshot_name pair;
  super_block = snap_super_of value;
  extents_root = snap_extents_of value;
  root_oid = field.root_oid_of bytes;
  meta_ext = field.meta_ext_of bytes;
}

-- that of a record, with its superblock as it stands in the image
unfoldable pub snapshot_in : List ℕ → Site → Pair → Snapshot
snapshot_in image site pair = snapshot_by pair (bytes_in pair.value) (super_in image site (snap_super_of (bytes_in pair.value)))

-- the snapshots of a volume, one for each snapshot's record, in tree order and so by transaction
abbrev pub snapshots_in : List ℕ → Site → VolHead → List Snapshot
snapshots_in image site head = map (snapshot_in image site) (snapshot_pairs (metadata_of image site head))

-- a snapshot's record gives a block of the container in which a sound superblock stands; of a record that is too short nothing is read
unfoldable pub has_super : List ℕ → Site → Pair → Bool
has_super image site pair =
    is_snapshot_long pair
    && (is_some (in_container site.blocks (snap_super_of (bytes_in pair.value))) && is_super image site None (snap_super_of (bytes_in pair.value)))

-- the snapshots of a volume whose superblocks are sound
abbrev pub sound_snapshots : List ℕ → Site → VolHead → List Snapshot
sound_snapshots image site head = map (snapshot_in image site) (filter (has_super image site) (snapshot_pairs (metadata_of image site head)))

-- what is known of a volume once it is loaded
pub record Loaded : Type 0 where
  pub head : VolHead
  pub omap : Contents
  pub names : Names
  pub root_oid : ℕ
  pub extents_root : ℕ
  pub snaps_root : ℕ
  pub snaps_steps : List Step
  pub meta_ext : ℕ
  pub snaps : List Snapshot

-- a volume by its superblock's bytes, its map, the steps of its snapshot metadata tree and its snapshots
abbrev pub loaded_by : VolHead → List ℕ → Contents → List Step → List Snapshot → Loaded
loaded_by head bytes omap steps snaps = record {
  head = head;
  omap = omap;
  names = names_of (field.incompat_of bytes);
  root_oid = field.root_oid_of bytes;
  extents_root = field.extents_root_of bytes;
  snaps_root = field.snaps_root_of bytes;
  snaps_steps = steps;
  meta_ext = field.meta_ext_of bytes;
  snaps = snaps;
}

-- the volume of a head
unfoldable pub loaded_of : List ℕ → Site → VolHead → Loaded
loaded_of image site head =
    loaded_by head (super_of image site head) (map_or_empty image site (map_block_of image site head)) (metadata_steps_of image site head) (snapshots_in image site head)
