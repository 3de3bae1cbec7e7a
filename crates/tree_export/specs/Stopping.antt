-- Where an export stops, and what it may name there.
use Rattle.std.specs.Prelude.{◌≡◌, ℕ, true, List, take, slice_get, Some, All, string_bytes}
use Rattle.obj_base.specs.Stops.{Tells}
use Rattle.obj_base.specs.declared.site.Site.{Site}
use Rattle.obj_base.specs.declared.stop.Stop.TheVariants.{Found, Unsupported, ReadFault, NoMemory}
use Rattle.bt_node.specs.Entries.{Pair}
use Rattle.vol_view.specs.Volumes.{Loaded}
use Rattle.vol_view.specs.Views.{view_flat, is_view_whole, IsViewFeature}
use Rattle.vol_view.specs.declared.volume.View.{View}
use Rattle.tree_export.specs.Exported.{Wanted}
use Rattle.tree_export.specs.declared.stop.ExportFault.{ExportFault}
use Rattle.tree_export.specs.declared.stop.ExportFault.TheVariants.{Stream, Walk, Value, NoInode}
use Rattle.tree_export.specs.declared.stop.ExportStop.{ExportStop}
use Rattle.tree_export.specs.declared.stop.ExportStop.TheVariants.{Stopped, WriteFault}
use Rattle.tree_export.specs.Faults.{HasInode, IsExportFault, LacksInode, fault_id}
use Rattle.tree_export.specs.declared.told.Item.{Item}

-- a fault of this id is there
abbrev pub IsFaultOf : List ℕ → Site → Loaded → View → ℕ → ExportFault → Type 0
IsFaultOf image site volume view id fault = (fault_id fault ≡ id) × IsExportFault image site volume view fault

-- what stops the call at an item of an id is there: a fault of the id, or a feature of a node of the view; of a folder that failed nothing is said
abbrev pub IsExportStop : List ℕ → Site → Loaded → View → ℕ → ExportStop → Type 0
IsExportStop image site volume view id (Stopped stop) = Tells (IsFaultOf image site volume view id) (IsViewFeature image site volume view) stop
IsExportStop image site volume view id WriteFault = Unit {0}

-- NoInode is named, or reading, writing or taking memory failed
abbrev pub IsNoInode : ExportStop → Type 0
IsNoInode (Stopped (Found (Stream id why))) = ⊥
IsNoInode (Stopped (Found (Walk id why))) = ⊥
IsNoInode (Stopped (Found (Value id why))) = ⊥
IsNoInode (Stopped (Found (NoInode id))) = Unit {0}
IsNoInode (Stopped (Unsupported feature block)) = ⊥
IsNoInode (Stopped ReadFault) = Unit {0}
IsNoInode (Stopped NoMemory) = Unit {0}
IsNoInode WriteFault = Unit {0}

-- each of some items names an id with a record of an inode
abbrev pub HaveInodes : List Pair → List Wanted → Type 0
HaveInodes pairs items = All (λ (item : Wanted). HasInode pairs item.id) items

-- the call stops at an item: those before it name ids with inodes, and what stops it is there; where its own has none and the view is whole, that is NoInode
pub record StopsAt (image : List ℕ) (site : Site) (volume : Loaded) (view : View) (items : List Wanted) (stop : ExportStop) : Type 0 where
  pub number : ℕ
  pub item : Wanted
  pub at : slice_get items number ≡ Some item
  pub before : HaveInodes (view_flat image site volume view) (take number items)
  pub there : IsExportStop image site volume view item.id stop
  pub missing : is_view_whole image site volume view ≡ true → LacksInode (view_flat image site volume view) item.id → IsNoInode stop

-- nothing is told of the image: reading, writing or taking memory failed
abbrev pub IsFailure : ExportStop → Type 0
IsFailure (Stopped (Found fault)) = ⊥
IsFailure (Stopped (Unsupported feature block)) = ⊥
IsFailure (Stopped ReadFault) = Unit {0}
IsFailure (Stopped NoMemory) = Unit {0}
IsFailure WriteFault = Unit {0}

-- an item of the call, by the bytes of its path
abbrev pub wanted_of : Item → Wanted
wanted_of item = record { path = string_bytes item.path; id = item.id; kind = item.kind; size = item.size }
