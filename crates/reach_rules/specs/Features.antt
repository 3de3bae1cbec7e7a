-- The features of named objects, of the records of snapshots, and of the mappings that are used.
use Rattle.std.specs.Prelude.{ℕ, List, [], ◌∷◌, ◌++◌, map, flat_map, Ok, Err, if◌then◌else◌}
use Rattle.apfs_model.specs.Lists.{In, through}
use Rattle.obj_base.specs.Features.{with_feature}
use Rattle.obj_base.specs.declared.stop.Bad.TheVariants.{Found as Fails, Unsupported}
use Rattle.obj_base.specs.declared.stop.Feature.{Feature}
use Rattle.obj_base.specs.declared.stop.Feature.TheVariants.{Reaper}
use Rattle.bt_node.specs.Entries.{Pair, bytes_in}
use Rattle.obj_base.specs.declared.site.Site.{Site}
use Rattle.nx_block.specs.Reaper.{is_reaping, has_reaped}
use Rattle.nx_ring.specs.Checkpoint.{Seen, site_of}
use Rattle.nx_ring.specs.Newest.{IsFeatureOf}
use Rattle.omap_map.specs.Fields.{snap_count_of}
use Rattle.omap_map.specs.Features.{map_features, snapshot_features, container_features, mapping_features}
use Rattle.omap_map.specs.Maps.{map_snapshots}
use Rattle.vol_view.specs.Features.{volume_features, snapshot_super_features, snapshot_record_features}
use Rattle.vol_view.specs.SnapRecords.{snap_super_of, snap_flags_of, is_snapshot_long}
use Rattle.space_map.specs.Stops.{space_features}
use Rattle.reach_rules.specs.Naming.{Object, Newest, InBlock, OfId, OfRecord, Expected, SpaceManager, ContainerMap, ReaperObject, ReapList, Jumpstart, VolumeIn, VolumeMap, ExtendedMetadata, SnapshotSuper, AddressBlock, InfoBlock, TreeRoot, TreeNode, Naming}
use Rattle.reach_rules.specs.Resolved.{Found, resolved}
use Rattle.reach_rules.specs.Tested.{Answer, tested}
use Rattle.reach_rules.specs.Next.{records_of_snapshots}
use Rattle.reach_rules.specs.Live.{IsLive}

-- a feature, and the block that is named for it
abbrev pub Placed : Type 0
Placed = Feature × ℕ

-- features that are named with one block
abbrev pub placed_in : ℕ → List Feature → List Placed
placed_in block features = map (λ feature. (feature, block)) features

-- the features of a map's object: of its fields, and of the snapshots in its tree
abbrev pub map_object_features : List ℕ → Seen → ℕ → List ℕ → List Feature
map_object_features image seen block bytes = map_features bytes ++ snapshot_features (map_snapshots image (site_of seen) block)

-- the features of the record of a snapshot, named with the block that it gives as the snapshot's superblock; of one that is too short nothing is read
abbrev pub record_features : Pair → List Placed
record_features pair =
    if is_snapshot_long pair then placed_in (snap_super_of (bytes_in pair.value)) (snapshot_record_features (snap_flags_of (bytes_in pair.value)))
    else []

-- the features of a volume, and of the records of its snapshots
abbrev pub volume_object_features : List ℕ → Seen → ℕ → List ℕ → List Placed
volume_object_features image seen block bytes =
    placed_in block (volume_features bytes)
    ++ flat_map record_features (records_of_snapshots image (site_of seen) bytes)

-- the features of a sound object in a block, by its fields and by what was expected of it
abbrev pub field_features : List ℕ → Seen → Expected → ℕ → List ℕ → List Placed
field_features image seen SpaceManager block bytes = placed_in block (space_features bytes)
field_features image seen ContainerMap block bytes = placed_in block (map_object_features image seen block bytes ++ container_features (snap_count_of bytes))
field_features image seen ReaperObject block bytes = placed_in block (with_feature (is_reaping bytes) Reaper [])
field_features image seen ReapList block bytes = placed_in block (with_feature (has_reaped bytes) Reaper [])
field_features image seen Jumpstart block bytes = []
field_features image seen (VolumeIn slot) block bytes = volume_object_features image seen block bytes
field_features image seen VolumeMap block bytes = placed_in block (map_object_features image seen block bytes)
field_features image seen ExtendedMetadata block bytes = []
field_features image seen (SnapshotSuper view) block bytes = placed_in block (snapshot_super_features bytes)
field_features image seen (AddressBlock i) block bytes = []
field_features image seen (InfoBlock i) block bytes = []
field_features image seen (TreeRoot kind) block bytes = []
field_features image seen (TreeNode kind level) block bytes = []

-- the features of an object in a block, by its tests: that of the first test that fails, or those of a sound one's fields
abbrev pub tested_features : List ℕ → Seen → Expected → Found → Answer → List Placed
tested_features image seen expected f (Ok _) = field_features image seen expected f.block f.bytes
tested_features image seen expected f (Err (Fails why)) = []
tested_features image seen expected f (Err (Unsupported feature)) = (feature, f.block) ∷ []

-- the features of the record by which an object is found, named with the block that it gives
abbrev pub used_features : Site → Object → List Placed
used_features site Newest = []
used_features site (InBlock block) = []
used_features site (OfId oid) = []
used_features site (OfRecord map r) = placed_in r.paddr (mapping_features site.block_size r.flags r.size)

-- the features through a naming, where it resolves
unfoldable pub features_through : List ℕ → Seen → Naming → List Placed
features_through image seen n = through (resolved image seen n) (λ (f : Found).
    used_features (site_of seen) f.object ++ tested_features image seen n.expected f (tested (site_of seen) n.expected n.oid f.bytes))

-- a feature is there, and this is the block that is named for it: of the newest superblock, or through a live naming
pub data HasFeature (image : List ℕ) (seen : Seen) (feature : Feature) (block : ℕ) : Type 0 where
  first : IsFeatureOf seen feature block → HasFeature image seen feature block
  of : (n : Naming) → IsLive image seen n → In (feature, block) (features_through image seen n) → HasFeature image seen feature block
