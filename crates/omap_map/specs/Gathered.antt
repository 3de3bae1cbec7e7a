-- What a walk over a map's trees gives.
use Rattle.std.specs.Prelude.{◌≡◌, ℕ, ◌+◌, ◌≤◌, Bool, true, false, List, [], ◌∷◌, ◌++◌, All, Option, None, Some, length, ◌||◌, ◌==◌, if◌then◌else◌}
use Rattle.obj_base.specs.declared.stop.Stop.{Stop}
use Rattle.obj_base.specs.declared.stop.Stop.TheVariants.{Found, Unsupported, ReadFault, NoMemory}
use Rattle.obj_base.specs.declared.stop.Feature.{Feature}
use Rattle.obj_base.specs.declared.site.Site.{Site}
use Rattle.bt_node.specs.declared.key.Rank.{Rank}
use Rattle.bt_node.specs.Rank.{is_below}
use Rattle.bt_node.specs.Entries.{Pair}
use Rattle.bt_keys.specs.Shapes.{rank3}
use Rattle.bt_cursor.specs.declared.gathering.GatherFault.{GatherFault}
use Rattle.bt_cursor.specs.declared.gathering.GatherFault.TheVariants as gathers
use Rattle.bt_cursor.specs.Tree.{Tree}
use Rattle.bt_cursor.specs.Flat.{flat_of}
use Rattle.bt_cursor.specs.Line.{Item}
use Rattle.bt_cursor.specs.WholeTree.{leaf_pairs}
use Rattle.bt_cursor.specs.Met.{nodes_of}
use Rattle.bt_cursor.specs.Whole.{is_whole}
use Rattle.bt_cursor.specs.Faults.{HasFeature}
use Rattle.bt_cursor.specs.Steps.{steps_in, steps_of}
use Rattle.bt_cursor.specs.declared.step.Step.{Step}
use Rattle.omap_map.specs.Records.{records_of, snapshots_of}
use Rattle.omap_map.specs.Loading.{IsAscending}
use Rattle.omap_map.specs.Maps.{snapshot_tree, IsTreeFault}
use Rattle.omap_map.specs.declared.records.OmapRecord.{OmapRecord}
use Rattle.omap_map.specs.declared.fault.OmapFault.{OmapFault}
use Rattle.omap_map.specs.declared.fault.OmapFault.TheVariants.{Tree as TreeFault}

-- a stop of a walk over the tree of a root, said of the map; no item is refused
abbrev pub SaysOfMap : ℕ → Stop GatherFault → Stop OmapFault → Type 0
SaysOfMap root (Found (gathers.Tree why)) stop = stop ≡ Found (TreeFault root why)
SaysOfMap root (Found (gathers.Refused item)) stop = ⊥
SaysOfMap root (Unsupported feature block) stop = stop ≡ Unsupported feature block
SaysOfMap root ReadFault stop = stop ≡ ReadFault
SaysOfMap root NoMemory stop = stop ≡ NoMemory

-- the records, and the snapshots, that an item of a tree gives: those of an entry of a leaf
abbrev pub records_in : Item → List OmapRecord
records_in item = records_of (leaf_pairs (item ∷ []))

abbrev pub snapshots_in : Item → List (ℕ × ℕ)
snapshots_in item = snapshots_of (leaf_pairs (item ∷ []))

-- what was gathered is what some items give, and the steps among them
pub record Gives {T : Type 0} (gives : List Pair → List T) (given : List T) (steps : List Step) (items : List Item) : Type 0 where
  pub same : given ≡ gives (leaf_pairs items)
  pub taken : steps ≡ steps_in items

-- what was gathered is what a whole tree gives, with the steps of the tree, and there were no more reads than nodes in it
pub record IsTree {K T : Type 0} (gives : List Pair → List T) (tree : Tree K) (root : ℕ) (given : List T) (steps : List Step) (start reads : ℕ) : Type 0 where
  pub same : given ≡ gives (flat_of tree root)
  pub taken : steps ≡ steps_of tree root
  pub whole : is_whole tree root ≡ true
  pub few : reads ≤ start + length (nodes_of tree root)

-- the snapshots of the tree of a root, where there is one, with the steps of the tree
pub record HasSnapshots (image : List ℕ) (site : Site) (root : ℕ) (snapshots : List (ℕ × ℕ)) (steps : List Step) (start reads : ℕ) : Type 0 where
  pub same : snapshots ≡ (if root == 0 then [] else snapshots_of (flat_of (snapshot_tree image site) root))
  pub taken : steps ≡ (if root == 0 then [] else steps_of (snapshot_tree image site) root)
  pub whole : (root == 0 || is_whole (snapshot_tree image site) root) ≡ true
  pub few : reads ≤ start + (if root == 0 then 0 else length (nodes_of (snapshot_tree image site) root))

-- a fault of the tree of a root is there, where there is one
abbrev pub IsSnapshotsFault : List ℕ → Site → ℕ → OmapFault → Type 0
IsSnapshotsFault image site root fault = ((root == 0) ≡ false) × IsTreeFault (snapshot_tree image site) root fault

abbrev pub IsSnapshotsFeature : List ℕ → Site → ℕ → Feature → ℕ → Type 0
IsSnapshotsFeature image site root feature block = ((root == 0) ≡ false) × HasFeature (snapshot_tree image site) root feature block

-- a record doesn't rank above the last key of a leaf
abbrev pub IsUpTo : Option Rank → OmapRecord → Type 0
IsUpTo None r = ⊥
IsUpTo (Some leaf) r = is_below leaf (rank3 r.oid r.xid 0) ≡ false

-- the last key of a leaf doesn't rank above the last key
abbrev pub IsLeafUpTo : Option Rank → Option Rank → Type 0
IsLeafUpTo None before = Unit {0}
IsLeafUpTo (Some leaf) None = ⊥
IsLeafUpTo (Some leaf) (Some before) = is_below before leaf ≡ false

-- some records ascend, and none ranks above the last key and the last key of a leaf
pub record IsOrdered (before leaf : Option Rank) (records : List OmapRecord) : Type 0 where
  pub ascending : IsAscending records
  pub upto : All (IsUpTo leaf) records
  pub leaf_first : IsLeafUpTo leaf before
