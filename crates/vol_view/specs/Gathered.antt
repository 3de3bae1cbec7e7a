-- What is kept of a volume's records while it is loaded.
use Rattle.std.specs.Prelude.{◌≡◌, ◌⊎◌, ℕ, is_ok, Err, ◌+◌, Bool, true, false, ◌&&◌, ◌||◌, ◌==◌, nat_le, List, [], ◌∷◌, length, map, Option, None, Some, is_none, option_map, if◌then◌else◌, bytes_eq}
use Rattle.std.specs.List.{list_all, list_any}
use Rattle.apfs_model.specs.Blocks.{in_container}
use Rattle.apfs_model.specs.Bytes.{u64_at}
use Rattle.apfs_model.specs.Lists.{In, are_distinct}
use Rattle.obj_base.specs.declared.stop.Bad.TheVariants as bads
use Rattle.obj_base.specs.declared.stop.Feature.{Feature}
use Rattle.obj_base.specs.declared.stop.Within.TheVariants.{Physical, Ephemeral, Container, Volume}
use Rattle.obj_base.specs.declared.site.Site.{Site}
use Rattle.bt_node.specs.Entries.{Pair, bytes_in}
use Rattle.bt_keys.specs.RecordKey.{id_of, plain_name_of}
use Rattle.bt_cursor.specs.Line.{Item, is_leaf_item}
use Rattle.bt_cursor.specs.WholeTree.{leaf_pairs}
use Rattle.bt_cursor.specs.Steps.{steps_in}
use Rattle.bt_cursor.specs.declared.step.Step.{Step}
use Rattle.bt_cursor.specs.Whole.{is_whole}
use Rattle.bt_cursor.specs.declared.gathering.GatherFault.{GatherFault}
use Rattle.bt_cursor.specs.declared.gathering.GatherFault.TheVariants as gathers
use Rattle.fs_name.specs.Steps.{name_of}
use Rattle.omap_map.specs.Features.{snapshot_features}
use Rattle.omap_map.specs.Maps.{Contents}
use Rattle.omap_map.specs.Loading.{IsLoaded}
use Rattle.vol_view.specs.Fields as field
use Rattle.vol_view.specs.Heads.{super_in, super_test, has_magic, is_super}
use Rattle.vol_view.specs.SnapRecords.{metadata_tree, metadata_pairs, is_snapshot, is_snapshot_name, snapshot_pairs, name_pairs, snap_xid, snap_created_of, snap_super_of, snap_extents_of, snap_flags_of, snap_name_len, snap_name_bytes, snapshot_name, record_name, named_xid}
use Rattle.vol_view.specs.Agreement.{are_readable}
use Rattle.vol_view.specs.Features.{snapshot_super_features, snapshot_record_features}
use Rattle.vol_view.specs.LoadStops.{IsSnapshotSuperFeature}
use Rattle.vol_view.specs.declared.stop.VolStop.{VolStop}
use Rattle.vol_view.specs.declared.stop.VolStop.TheVariants.{Head, Magic, Unnamed, Omap, Walk, SnapRecord, SnapCount, SnapName, OmapSnaps}
use Rattle.vol_view.specs.declared.records.SnapshotRecord.{SnapshotRecord}
use Rattle.vol_view.specs.declared.records.NameRecord.{NameRecord}
use Rattle.vol_view.specs.declared.volume.Snapshot.{Snapshot}

-- the first of some features
abbrev pub first_of : List Feature → Option Feature
first_of [] = None
first_of (feature ∷ features) = Some feature

-- the name in a snapshot's record, where the record is long enough for it and it is proper
abbrev pub named_in_value : List ℕ → Option (List ℕ)
named_in_value value = if nat_le 50 (length value) && nat_le (50 + snap_name_len value) (length value) then name_of (snap_name_bytes value) else None

-- what a snapshot's record of a transaction tells, with this name
abbrev pub snapshot_with : ℕ → List ℕ → List ℕ → SnapshotRecord
snapshot_with xid value name = record {
  xid = xid;
  created = snap_created_of value;
  name = name;
  super_block = snap_super_of value;
  extents_root = snap_extents_of value;
  flags = snap_flags_of value;
}

-- what a snapshot's record tells, where it can be read
abbrev pub snapshot_read : ℕ → List ℕ → Option SnapshotRecord
snapshot_read xid value = option_map (snapshot_with xid value) (named_in_value value)

-- what the record of a snapshot's name tells, where it can be read
abbrev pub name_with : List ℕ → List ℕ → NameRecord
name_with value name = record { xid = u64_at value 0; name = name }

abbrev pub name_read : List ℕ → List ℕ → Option NameRecord
name_read key value = if nat_le 8 (length value) then option_map (name_with value) (name_of (plain_name_of key)) else None

-- what a snapshot's record tells, and what the record of a name does
abbrev pub snapshot_told : Pair → SnapshotRecord
snapshot_told pair = snapshot_with (snap_xid pair) (bytes_in pair.value) (snapshot_name pair)

abbrev pub name_told : Pair → NameRecord
name_told pair = record { xid = named_xid pair; name = record_name pair }

-- an entry of a leaf is the record of a snapshot, or of a name, and can't be read
abbrev pub is_unread : Pair → Bool
is_unread pair =
    if is_snapshot pair then is_none (snapshot_read (id_of pair.key) (bytes_in pair.value)) else
    if is_snapshot_name pair then is_none (name_read pair.key (bytes_in pair.value)) else false

-- an item of the tree is such an entry
abbrev pub is_refused : Item → Bool
is_refused item = is_leaf_item item && is_unread item.pair

-- why a walk over the snapshot metadata tree of a root stops, said of the volume in a slot
abbrev pub metadata_stop : ℕ → ℕ → GatherFault → VolStop
metadata_stop slot root (gathers.Tree why) = Walk root why
metadata_stop slot root (gathers.Refused item) = SnapRecord slot

-- what was gathered is what some records tell
pub record Tell (pairs : List Pair) (snapshots : List SnapshotRecord) (names : List NameRecord) : Type 0 where
  pub snapshots_same : snapshots ≡ map snapshot_told (snapshot_pairs pairs)
  pub names_same : names ≡ map name_told (name_pairs pairs)

-- what was gathered is what the records among some items tell, and the steps among them
pub record Gives (items : List Item) (snapshots : List SnapshotRecord) (names : List NameRecord) (steps : List Step) : Type 0 where
  pub told : Tell (leaf_pairs items) snapshots names
  pub taken : steps ≡ steps_in items

-- the records of the snapshot metadata tree of a root were gathered: the tree is whole, where there is one, and they can be read
pub record HasMetadata (image : List ℕ) (site : Site) (root : ℕ) (snapshots : List SnapshotRecord) (names : List NameRecord) : Type 0 where
  pub whole : (root == 0 || is_whole (metadata_tree image site) root) ≡ true
  pub readable : are_readable (metadata_pairs image site root) ≡ true
  pub told : Tell (metadata_pairs image site root) snapshots names

-- the map of a volume was loaded, and its snapshots have no feature
pub record HasVolumeMap (image : List ℕ) (site : Site) (block : ℕ) (contents : Contents) : Type 0 where
  pub loaded : IsLoaded image site block contents
  pub unmarked : snapshot_features contents.snapshots ≡ []

-- a snapshot's record and the record of a name are of one transaction and one name
abbrev pub is_same : SnapshotRecord → NameRecord → Bool
is_same snapshot name = (snapshot.xid == name.xid) && bytes_eq snapshot.name name.name

-- they agree one to one, and no name stands twice
unfoldable pub are_same : List SnapshotRecord → List NameRecord → Bool
are_same snapshots names =
    (list_all (λ snapshot. list_any (is_same snapshot) names) snapshots && list_all (λ name. list_any (λ snapshot. is_same snapshot name) snapshots) names)
    && (are_distinct (map (λ (s : SnapshotRecord). s.name) snapshots) && are_distinct (map (λ (n : NameRecord). n.name) names))

-- the transactions of a map's snapshots are those of the volume's, and the map counts as many
abbrev pub map_agrees : ℕ → List ℕ → List SnapshotRecord → Bool
map_agrees stored xids snapshots = bytes_eq xids (map (λ (s : SnapshotRecord). s.xid) snapshots) && (stored == length xids)

-- the records agree with one another, with the number that the volume counts, and with the map
pub record AgreeBy (stored map_stored : ℕ) (map_xids : List ℕ) (snapshots : List SnapshotRecord) (names : List NameRecord) : Type 0 where
  pub counted : (stored == length snapshots) ≡ true
  pub named : are_same snapshots names ≡ true
  pub mapped : map_agrees map_stored map_xids snapshots ≡ true

-- what doesn't agree
abbrev pub Disagree : ℕ → ℕ → ℕ → List ℕ → List SnapshotRecord → List NameRecord → VolStop → Type 0
Disagree at stored map_stored map_xids snapshots names (Head block why) = ⊥
Disagree at stored map_stored map_xids snapshots names (Magic block) = ⊥
Disagree at stored map_stored map_xids snapshots names (Unnamed within oid) = ⊥
Disagree at stored map_stored map_xids snapshots names (Omap fault) = ⊥
Disagree at stored map_stored map_xids snapshots names (Walk root why) = ⊥
Disagree at stored map_stored map_xids snapshots names (SnapRecord slot) = ⊥
Disagree at stored map_stored map_xids snapshots names (SnapCount slot) = (slot ≡ at) × ((stored == length snapshots) ≡ false)
Disagree at stored map_stored map_xids snapshots names (SnapName slot) = (slot ≡ at) × (are_same snapshots names ≡ false)
Disagree at stored map_stored map_xids snapshots names (OmapSnaps slot) = (slot ≡ at) × (map_agrees map_stored map_xids snapshots ≡ false)

-- what a record of a snapshot names is right: a sound superblock in a block of the container, and neither has a feature
pub record IsRightRecord (image : List ℕ) (site : Site) (snapshot : SnapshotRecord) : Type 0 where
  pub inside : in_container site.blocks snapshot.super_block ≡ Some snapshot.super_block
  pub super : is_super image site None snapshot.super_block ≡ true
  pub unmarked : snapshot_record_features snapshot.flags ≡ []
  pub plain : snapshot_super_features (super_in image site snapshot.super_block) ≡ []

-- the snapshot of a record, by the bytes of its superblock
abbrev pub snapshot_from : SnapshotRecord → List ℕ → Snapshot
snapshot_from record_told bytes = record {
  xid = record_told.xid;
  created = record_told.created;
  name = record_told.name;
  super_block = record_told.super_block;
  extents_root = record_told.extents_root;
  root_oid = field.root_oid_of bytes;
  meta_ext = field.meta_ext_of bytes;
}

-- that of a record, with its superblock as it stands in the image
abbrev pub snapshot_for : List ℕ → Site → SnapshotRecord → Snapshot
snapshot_for image site told = snapshot_from told (super_in image site told.super_block)

-- what a record of a snapshot names isn't right
abbrev pub IsRecordStop : List ℕ → Site → SnapshotRecord → VolStop → Type 0
IsRecordStop image site told (Head block why) = (told.super_block ≡ block) × (in_container site.blocks block ≡ Some block) × (super_test image site None block ≡ Err (bads.Found why))
IsRecordStop image site told (Magic block) = (told.super_block ≡ block) × (in_container site.blocks block ≡ Some block) × (is_ok (super_test image site None block) ≡ true) × (has_magic (super_in image site block) ≡ false)
IsRecordStop image site told (Unnamed Physical oid) = (told.super_block ≡ oid) × (in_container site.blocks oid ≡ None)
IsRecordStop image site told (Unnamed Container oid) = ⊥
IsRecordStop image site told (Unnamed Ephemeral oid) = ⊥
IsRecordStop image site told (Unnamed (Volume slot) oid) = ⊥
IsRecordStop image site told (Omap fault) = ⊥
IsRecordStop image site told (Walk root why) = ⊥
IsRecordStop image site told (SnapRecord slot) = ⊥
IsRecordStop image site told (SnapCount slot) = ⊥
IsRecordStop image site told (SnapName slot) = ⊥
IsRecordStop image site told (OmapSnaps slot) = ⊥

-- a feature of a snapshot is there: of its record's flags, or of its superblock
abbrev pub IsRecordFeature : List ℕ → Site → SnapshotRecord → Feature → ℕ → Type 0
IsRecordFeature image site told feature block =
    (told.super_block ≡ block) × (In feature (snapshot_record_features told.flags) ⊎ IsSnapshotSuperFeature image site feature block)

-- the records of some snapshots are right, and these are the snapshots
pub record AreSnapshots (image : List ℕ) (site : Site) (records : List SnapshotRecord) (snapshots : List Snapshot) : Type 0 where
  pub right : (told : SnapshotRecord) → In told records → IsRightRecord image site told
  pub same : snapshots ≡ map (snapshot_for image site) records

-- a record of a snapshot is right, and this is the snapshot
pub record IsRightSnapshotOf (image : List ℕ) (site : Site) (told : SnapshotRecord) (snapshot : Snapshot) : Type 0 where
  pub right : IsRightRecord image site told
  pub same : snapshot ≡ snapshot_for image site told

-- what isn't right of one of some records
abbrev pub IsStopOfOne : List ℕ → Site → List SnapshotRecord → VolStop → Type 0
IsStopOfOne image site records stop = (told : SnapshotRecord) × In told records × IsRecordStop image site told stop

-- a feature of one of some snapshots is there
abbrev pub IsFeatureOfOne : List ℕ → Site → List SnapshotRecord → Feature → ℕ → Type 0
IsFeatureOfOne image site records feature block = (told : SnapshotRecord) × In told records × IsRecordFeature image site told feature block

-- one of some features, of the object in a block
abbrev pub IsFeatureAt : ℕ → List Feature → Feature → ℕ → Type 0
IsFeatureAt block features feature at = (at ≡ block) × In feature features
