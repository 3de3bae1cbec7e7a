-- What is there where a folder can't be filled.
use Rattle.std.specs.Prelude.{◌≡◌, ℕ, true, List, Ok, Err}
use Rattle.apfs_model.specs.Lists.{In}
use Rattle.obj_base.specs.declared.site.Site.{Site}
use Rattle.bt_node.specs.Entries.{Pair}
use Rattle.bt_keys.specs.RecordKey.{id_of, record_kind_of, inode_record}
use Rattle.fs_record.specs.Facts.{read_inode}
use Rattle.fs_record.specs.Inodes.{Inode}
use Rattle.fs_record.specs.declared.fault.RecFault.{RecFault}
use Rattle.file_extent.specs.Stops.{IsStreamStop}
use Rattle.vol_view.specs.Volumes.{Loaded}
use Rattle.vol_view.specs.Views.{view_flat, is_view_whole, IsViewFault}
use Rattle.vol_view.specs.declared.volume.View.{View}
use Rattle.tree_export.specs.declared.stop.ExportFault.{ExportFault}
use Rattle.tree_export.specs.declared.stop.ExportFault.TheVariants.{Stream, Walk, Value, NoInode}

-- a record of the inode of an id
pub record IsInodeRecord (pairs : List Pair) (id : ℕ) (pair : Pair) : Type 0 where
  pub one : In pair pairs
  pub kind : record_kind_of pair.key ≡ inode_record
  pub of_id : id_of pair.key ≡ id

-- an id has a record of an inode among some records
abbrev pub HasInode : List Pair → ℕ → Type 0
HasInode pairs id = (pair : Pair) × IsInodeRecord pairs id pair

-- it has none
abbrev pub LacksInode : List Pair → ℕ → Type 0
LacksInode pairs id = HasInode pairs id → ⊥

-- a record of an id's inode is read, as this inode
abbrev pub IsInodeOf : List Pair → ℕ → Inode → Type 0
IsInodeOf pairs id inode = (pair : Pair) × IsInodeRecord pairs id pair × (read_inode pair ≡ Ok inode)

-- a record of an id's inode is refused, for this reason
abbrev pub IsRefusedInode : List Pair → ℕ → RecFault → Type 0
IsRefusedInode pairs id why = (pair : Pair) × IsInodeRecord pairs id pair × (read_inode pair ≡ Err why)

-- what is named of an id is there in a view: Stream of the stream of the id's inode; Walk of the view's tree; Value of a record of the inode; NoInode where the tree is whole and has no such record
abbrev pub IsExportFault : List ℕ → Site → Loaded → View → ExportFault → Type 0
IsExportFault image site volume view (Stream id why) = (inode : Inode) × IsInodeOf (view_flat image site volume view) id inode × IsStreamStop image site volume view inode.private_id why
IsExportFault image site volume view (Walk id why) = IsViewFault image site volume view why
IsExportFault image site volume view (Value id why) = IsRefusedInode (view_flat image site volume view) id why
IsExportFault image site volume view (NoInode id) = (is_view_whole image site volume view ≡ true) × LacksInode (view_flat image site volume view) id

-- the id that is named
abbrev pub fault_id : ExportFault → ℕ
fault_id (Stream id why) = id
fault_id (Walk id why) = id
fault_id (Value id why) = id
fault_id (NoInode id) = id
