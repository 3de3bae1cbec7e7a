-- The object maps of an image.
use Rattle.std.specs.Prelude.{◌≡◌, ◌⊎◌, ℕ, Bool, true, false, ◌&&◌, ◌||◌, ◌==◌, List, [], is_ok, is_some, Option, None, Some, Result, Err, if◌then◌else◌}
use Rattle.apfs_model.specs.Blocks.{block_of, in_container}
use Rattle.apfs_model.specs.Lists.{In}
use Rattle.apfs_model.specs.Object.{map_kind}
use Rattle.obj_base.specs.Sound.{sound_of, expecting}
use Rattle.obj_base.specs.declared.header.Header.{Header}
use Rattle.obj_base.specs.declared.header.HeadFault.{HeadFault}
use Rattle.obj_base.specs.declared.stop.Bad.{Bad}
use Rattle.obj_base.specs.declared.stop.Bad.TheVariants as bads
use Rattle.obj_base.specs.declared.stop.Feature.{Feature}
use Rattle.obj_base.specs.declared.site.Site.{Site}
use Rattle.bt_keys.specs.declared.number_key.OmapKey.{OmapKey}
use Rattle.bt_keys.specs.declared.number_key.OmapSnapKey.{OmapSnapKey}
use Rattle.bt_keys.specs.Shapes.{omap_shape, omap_snap_shape}
use Rattle.bt_cursor.specs.Tree.{Tree, tree_in}
use Rattle.bt_cursor.specs.Flat.{flat_of}
use Rattle.bt_cursor.specs.Faults.{IsWalkFault, HasFeature}
use Rattle.bt_cursor.specs.Whole.{is_whole}
use Rattle.bt_cursor.specs.Steps.{steps_of}
use Rattle.bt_cursor.specs.declared.step.Step.{Step}
use Rattle.omap_map.specs.Fields.{snap_count_of, tree_of, snap_tree_of}
use Rattle.omap_map.specs.Records.{records_of, snapshots_of}
use Rattle.omap_map.specs.Resolve.{resolved}
use Rattle.omap_map.specs.Features.{map_features}
use Rattle.omap_map.specs.declared.records.OmapRecord.{OmapRecord}
use Rattle.omap_map.specs.declared.fault.OmapFault.{OmapFault}
use Rattle.omap_map.specs.declared.fault.OmapFault.TheVariants.{Head, Tree as TreeFault}

-- what a loaded map has: its records in tree order, its snapshots, the number of snapshots that it counts, its block, the ids of its roots, and the steps of its two trees
pub record Contents : Type 0 where
  pub records : List OmapRecord
  pub snapshots : List (ℕ × ℕ)
  pub snap_count : ℕ
  pub block : ℕ
  pub tree : ℕ
  pub snap_tree : ℕ
  pub steps : List Step
  pub snap_steps : List Step

-- the bytes of the map in a block
abbrev pub map_in : List ℕ → Site → ℕ → List ℕ
map_in image site block = block_of site.block_size image block

-- what the tests of its header say; a physical object has its block as oid
abbrev pub head_of : List ℕ → Site → ℕ → Result Header (Bad HeadFault)
head_of image site block = sound_of (map_in image site block) (expecting map_kind (Some block) site.max_xid)

-- a sound object map in a block of the container
unfoldable pub is_map_object : List ℕ → Site → ℕ → Bool
is_map_object image site block = is_some (in_container site.blocks block) && is_ok (head_of image site block)

-- the trees of records of an image, and its trees of snapshots: an id names the block of its number
abbrev pub record_tree : List ℕ → Site → Tree OmapKey
record_tree image site = tree_in omap_shape site (in_container site.blocks) image

abbrev pub snapshot_tree : List ℕ → Site → Tree OmapSnapKey
snapshot_tree image site = tree_in omap_snap_shape site (in_container site.blocks) image

-- the records of the map in a block
unfoldable pub map_records : List ℕ → Site → ℕ → List OmapRecord
map_records image site block = records_of (flat_of (record_tree image site) (tree_of (map_in image site block)))

-- a map without a tree of snapshots
abbrev pub has_no_snapshots : List ℕ → Bool
has_no_snapshots bytes = snap_tree_of bytes == 0

-- the snapshots of the map in a block
unfoldable pub map_snapshots : List ℕ → Site → ℕ → List (ℕ × ℕ)
map_snapshots image site block =
    if has_no_snapshots (map_in image site block) then [] else
    snapshots_of (flat_of (snapshot_tree image site) (snap_tree_of (map_in image site block)))

-- the steps of the two trees of the map in a block; none of snapshots where it has no such tree
unfoldable pub map_steps : List ℕ → Site → ℕ → List Step
map_steps image site block = steps_of (record_tree image site) (tree_of (map_in image site block))

unfoldable pub map_snap_steps : List ℕ → Site → ℕ → List Step
map_snap_steps image site block = if has_no_snapshots (map_in image site block) then [] else steps_of (snapshot_tree image site) (snap_tree_of (map_in image site block))

-- what the map in a block has
abbrev pub contents_of : List ℕ → Site → ℕ → Contents
contents_of image site block = record {
  records = map_records image site block;
  snapshots = map_snapshots image site block;
  snap_count = snap_count_of (map_in image site block);
  block = block;
  tree = tree_of (map_in image site block);
  snap_tree = snap_tree_of (map_in image site block);
  steps = map_steps image site block;
  snap_steps = map_snap_steps image site block;
}

-- the tree of the snapshots is whole, where the map has one
unfoldable pub has_whole_snapshots : List ℕ → Site → ℕ → Bool
has_whole_snapshots image site block =
    has_no_snapshots (map_in image site block) || is_whole (snapshot_tree image site) (snap_tree_of (map_in image site block))

-- a whole map: its object is sound, and its tree and its tree of snapshots, where it has one, are whole
unfoldable pub is_whole_map : List ℕ → Site → ℕ → Bool
is_whole_map image site block =
    is_map_object image site block
    && (is_whole (record_tree image site) (tree_of (map_in image site block)) && has_whole_snapshots image site block)

-- the record that an oid resolves to at x through the map in a block; through a map that isn't whole nothing is looked up
unfoldable pub resolved_in : List ℕ → Site → ℕ → ℕ → ℕ → Option OmapRecord
resolved_in image site block oid x = if is_whole_map image site block then resolved (map_records image site block) oid x else None

-- a fault of the tree of a root is there
abbrev pub IsTreeFault : {K : Type 0} → Tree K → ℕ → OmapFault → Type 0
IsTreeFault tree root (Head block why) = ⊥
IsTreeFault tree root (TreeFault other why) = (other ≡ root) × IsWalkFault tree root why

-- a fault of one of the two trees of a map is there
abbrev pub IsTreesFault : List ℕ → Site → List ℕ → OmapFault → Type 0
IsTreesFault image site bytes fault =
    IsTreeFault (record_tree image site) (tree_of bytes) fault
    ⊎ ((has_no_snapshots bytes ≡ false) × IsTreeFault (snapshot_tree image site) (snap_tree_of bytes) fault)

-- a feature of a node of one of the two trees of a map is there
abbrev pub IsTreesFeature : List ℕ → Site → List ℕ → Feature → ℕ → Type 0
IsTreesFeature image site bytes feature block =
    HasFeature (record_tree image site) (tree_of bytes) feature block
    ⊎ ((has_no_snapshots bytes ≡ false) × HasFeature (snapshot_tree image site) (snap_tree_of bytes) feature block)

-- the fault of the map in a block is there: of its object, or of one of its trees
abbrev pub IsMapFault : List ℕ → Site → ℕ → OmapFault → Type 0
IsMapFault image site at (Head block why) = (block ≡ at) × (in_container site.blocks at ≡ Some at) × (head_of image site at ≡ Err (bads.Found why))
IsMapFault image site at (TreeFault root why) = (is_map_object image site at ≡ true) × IsTreesFault image site (map_in image site at) (TreeFault root why)

-- a feature of the map in a block is there: of its header, of its fields, or of a node of one of its trees
abbrev pub IsMapFeature : List ℕ → Site → ℕ → Feature → ℕ → Type 0
IsMapFeature image site at feature block =
    ((block ≡ at) × (in_container site.blocks at ≡ Some at) × (head_of image site at ≡ Err (bads.Unsupported feature)))
    ⊎ ((is_map_object image site at ≡ true)
    × (((block ≡ at) × In feature (map_features (map_in image site at))) ⊎ IsTreesFeature image site (map_in image site at) feature block))
