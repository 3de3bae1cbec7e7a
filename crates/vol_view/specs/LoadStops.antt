-- What is there where a volume can't be loaded, and what holds where it can.
use Rattle.std.specs.Prelude.{◌≡◌, ◌⊎◌, ℕ, Bool, true, false, ◌||◌, ◌==◌, List, [], map, None, Some, is_ok, Err}
use Rattle.apfs_model.specs.Blocks.{in_container}
use Rattle.apfs_model.specs.Lists.{In}
use Rattle.obj_base.specs.declared.stop.Bad.TheVariants.{Found, Unsupported}
use Rattle.obj_base.specs.declared.stop.Feature.{Feature}
use Rattle.obj_base.specs.declared.stop.Within.TheVariants.{Physical, Ephemeral, Container, Volume}
use Rattle.bt_node.specs.Entries.{Pair, bytes_in}
use Rattle.obj_base.specs.declared.site.Site.{Site}
use Rattle.bt_cursor.specs.Whole.{is_whole}
use Rattle.bt_cursor.specs.Faults.{IsWalkFault, HasFeature}
use Rattle.omap_map.specs.Fields.{snap_count_of}
use Rattle.omap_map.specs.Features.{is_reverting, snapshot_features}
use Rattle.omap_map.specs.Maps.{map_in, map_snapshots, is_map_object, is_whole_map, IsMapFault, IsMapFeature}
use Rattle.vol_view.specs.Fields as field
use Rattle.vol_view.specs.Heads.{super_in, super_test, has_magic, is_super}
use Rattle.vol_view.specs.SnapRecords.{metadata_tree, snapshot_pairs, snap_super_of, snap_flags_of, is_snapshot_long}
use Rattle.vol_view.specs.Volumes.{Loaded, super_of, map_block_of, metadata_of, loaded_of}
use Rattle.vol_view.specs.Agreement.{are_readable, is_snap_count, are_named, are_map_snapshots, Agree}
use Rattle.vol_view.specs.Features.{volume_features, snapshot_super_features, snapshot_record_features}
use Rattle.vol_view.specs.declared.head.VolHead.{VolHead}
use Rattle.vol_view.specs.declared.stop.VolStop.{VolStop}
use Rattle.vol_view.specs.declared.stop.VolStop.TheVariants.{Head, Magic, Unnamed, Omap, Walk, SnapRecord, SnapCount, SnapName, OmapSnaps}

-- the root of a volume's snapshot metadata tree, as its superblock gives it
abbrev pub metadata_root : List ℕ → Site → VolHead → ℕ
metadata_root image site head = field.snaps_root_of (super_of image site head)

-- the number of snapshots that a volume counts
abbrev pub counted_snapshots : List ℕ → Site → VolHead → ℕ
counted_snapshots image site head = field.snapshots_of (super_of image site head)

-- the number of snapshots that a volume's map counts
abbrev pub map_count : List ℕ → Site → VolHead → ℕ
map_count image site head = snap_count_of (map_in image site (map_block_of image site head))

-- the transactions of the snapshots of a volume's map
abbrev pub map_xids : List ℕ → Site → VolHead → List ℕ
map_xids image site head = map (λ (s : ℕ × ℕ). s.0) (map_snapshots image site (map_block_of image site head))

-- a record of a snapshot of a volume, from which something is read; one that is too short gives nothing but `SnapRecord`
pub record IsSnapshotOf (image : List ℕ) (site : Site) (head : VolHead) (pair : Pair) : Type 0 where
  pub one : In pair (snapshot_pairs (metadata_of image site head))
  pub long : is_snapshot_long pair ≡ true

-- a record of a snapshot of a volume gives a block as that of the snapshot's superblock
pub record NamesSuper (image : List ℕ) (site : Site) (head : VolHead) (block : ℕ) : Type 0 where
  pub pair : Pair
  pub one : IsSnapshotOf image site head pair
  pub same : snap_super_of (bytes_in pair.value) ≡ block

-- a block of the container that a record of a snapshot of a volume gives as that of the snapshot's superblock
pub record IsSnapshotSuper (image : List ℕ) (site : Site) (head : VolHead) (block : ℕ) : Type 0 where
  pub named : NamesSuper image site head block
  pub inside : in_container site.blocks block ≡ Some block

-- what `load` names of a volume is there: of its map, of its snapshot metadata tree, of its snapshots, or of how they agree
abbrev pub IsLoadStop : List ℕ → Site → VolHead → VolStop → Type 0
IsLoadStop image site head (Head block why) = IsSnapshotSuper image site head block × (super_test image site None block ≡ Err (Found why))
IsLoadStop image site head (Magic block) = IsSnapshotSuper image site head block × (is_ok (super_test image site None block) ≡ true) × (has_magic (super_in image site block) ≡ false)
IsLoadStop image site head (Unnamed Physical oid) = ((oid ≡ map_block_of image site head) ⊎ NamesSuper image site head oid) × (in_container site.blocks oid ≡ None)
IsLoadStop image site head (Unnamed Container oid) = ⊥
IsLoadStop image site head (Unnamed Ephemeral oid) = ⊥
IsLoadStop image site head (Unnamed (Volume slot) oid) = ⊥
IsLoadStop image site head (Omap fault) = IsMapFault image site (map_block_of image site head) fault
IsLoadStop image site head (Walk root why) = (root ≡ metadata_root image site head) × ((root == 0) ≡ false) × IsWalkFault (metadata_tree image site) root why
IsLoadStop image site head (SnapRecord slot) = (slot ≡ head.slot) × (are_readable (metadata_of image site head) ≡ false)
IsLoadStop image site head (SnapCount slot) = (slot ≡ head.slot) × (is_snap_count (counted_snapshots image site head) (metadata_of image site head) ≡ false)
IsLoadStop image site head (SnapName slot) = (slot ≡ head.slot) × (are_named (metadata_of image site head) ≡ false)
IsLoadStop image site head (OmapSnaps slot) =
    (slot ≡ head.slot) × (is_map_object image site (map_block_of image site head) ≡ true)
    × (are_map_snapshots (map_count image site head) (map_xids image site head) (metadata_of image site head) ≡ false)

-- a feature of a volume's superblock is there, in the superblock's block
abbrev pub IsSuperFeature : List ℕ → Site → VolHead → Feature → ℕ → Type 0
IsSuperFeature image site head feature block = (block ≡ head.block) × In feature (volume_features (super_of image site head))

-- SnapshotState: a snapshot of a volume's map is being deleted or reverted to; the block is the map's
abbrev pub IsMapSnapshotFeature : List ℕ → Site → VolHead → Feature → ℕ → Type 0
IsMapSnapshotFeature image site head feature block =
    (block ≡ map_block_of image site head) × (is_map_object image site block ≡ true) × In feature (snapshot_features (map_snapshots image site block))

-- a feature of a node of a volume's snapshot metadata tree is there
abbrev pub IsMetadataFeature : List ℕ → Site → VolHead → Feature → ℕ → Type 0
IsMetadataFeature image site head feature block =
    ((metadata_root image site head == 0) ≡ false) × HasFeature (metadata_tree image site) (metadata_root image site head) feature block

-- a feature of a snapshot's superblock is there, in a block of the container: of its header, or of a sound superblock's fields
abbrev pub IsSnapshotSuperFeature : List ℕ → Site → Feature → ℕ → Type 0
IsSnapshotSuperFeature image site feature block =
    (in_container site.blocks block ≡ Some block)
    × ((super_test image site None block ≡ Err (Unsupported feature))
    ⊎ ((is_super image site None block ≡ true) × In feature (snapshot_super_features (super_in image site block))))

-- a feature of a snapshot is there, in the block that its record gives as the superblock's: of the record's flags, or of the superblock
pub record IsSnapshotFeature (image : List ℕ) (site : Site) (head : VolHead) (feature : Feature) (block : ℕ) : Type 0 where
  pub pair : Pair
  pub one : IsSnapshotOf image site head pair
  pub same : snap_super_of (bytes_in pair.value) ≡ block
  pub has : In feature (snapshot_record_features (snap_flags_of (bytes_in pair.value))) ⊎ IsSnapshotSuperFeature image site feature block

-- a feature that `load` names is there: of the volume, of its map and the map's snapshots, of its snapshot metadata tree, or of a snapshot
abbrev pub IsLoadFeature : List ℕ → Site → VolHead → Feature → ℕ → Type 0
IsLoadFeature image site head feature block =
    IsSuperFeature image site head feature block
    ⊎ (IsMapFeature image site (map_block_of image site head) feature block
    ⊎ (IsMapSnapshotFeature image site head feature block
    ⊎ (IsMetadataFeature image site head feature block
    ⊎ IsSnapshotFeature image site head feature block)))

-- the snapshot metadata tree of a volume is whole, where the volume has one
unfoldable pub has_whole_metadata : List ℕ → Site → VolHead → Bool
has_whole_metadata image site head = (metadata_root image site head == 0) || is_whole (metadata_tree image site) (metadata_root image site head)

-- a snapshot's record gives a sound superblock in a block of the container, and neither has a feature
pub record IsRightSnapshot (image : List ℕ) (site : Site) (pair : Pair) : Type 0 where
  pub inside : in_container site.blocks (snap_super_of (bytes_in pair.value)) ≡ Some (snap_super_of (bytes_in pair.value))
  pub super : is_super image site None (snap_super_of (bytes_in pair.value)) ≡ true
  pub unmarked : snapshot_record_features (snap_flags_of (bytes_in pair.value)) ≡ []
  pub plain : snapshot_super_features (super_in image site (snap_super_of (bytes_in pair.value))) ≡ []

-- nothing that `load` could name of a volume is there
pub record IsLoadable (image : List ℕ) (site : Site) (head : VolHead) : Type 0 where
  pub plain : volume_features (super_of image site head) ≡ []
  pub map : is_whole_map image site (map_block_of image site head) ≡ true
  pub settled : is_reverting (map_in image site (map_block_of image site head)) ≡ false
  pub unmarked : snapshot_features (map_snapshots image site (map_block_of image site head)) ≡ []
  pub metadata : has_whole_metadata image site head ≡ true
  pub agreed : Agree (counted_snapshots image site head) (map_count image site head) (map_xids image site head) (metadata_of image site head)
  pub snapshots : (pair : Pair) → In pair (snapshot_pairs (metadata_of image site head)) → IsRightSnapshot image site pair

-- nothing that `load` could name is there, and this is the volume
pub record IsVolumeOf (image : List ℕ) (site : Site) (head : VolHead) (volume : Loaded) : Type 0 where
  pub right : IsLoadable image site head
  pub same : volume ≡ loaded_of image site head
