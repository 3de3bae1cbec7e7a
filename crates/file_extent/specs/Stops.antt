-- What is there where a stream can't be opened, and what holds where it can.
use Rattle.std.specs.Prelude.{◌≡◌, ℕ, false, List, Err}
use Rattle.apfs_model.specs.Lists.{In}
use Rattle.bt_node.specs.Entries.{Pair}
use Rattle.obj_base.specs.declared.site.Site.{Site}
use Rattle.bt_keys.specs.RecordKey.{id_of, record_kind_of, file_extent_record}
use Rattle.fs_record.specs.StreamExtents.{are_extents_ordered}
use Rattle.fs_record.specs.Facts.{read_extent}
use Rattle.fs_record.specs.declared.fault.RecFault.{RecFault}
use Rattle.vol_view.specs.Volumes.{Loaded}
use Rattle.vol_view.specs.Views.{view_flat, IsViewFault}
use Rattle.vol_view.specs.declared.volume.View.{View}
use Rattle.file_extent.specs.Streams.{extents_for, are_extents_placed}
use Rattle.file_extent.specs.declared.stop.StreamStop.{StreamStop}
use Rattle.file_extent.specs.declared.stop.StreamStop.TheVariants.{Walk, Extent, Order, Outside}

-- a record of an extent of a stream is refused, for this reason
pub record HasRefused (pairs : List Pair) (id : ℕ) (why : RecFault) : Type 0 where
  pub pair : Pair
  pub one : In pair pairs
  pub kind : record_kind_of pair.key ≡ file_extent_record
  pub of_stream : id_of pair.key ≡ id
  pub refusal : read_extent pair ≡ Err why

-- what is named of a stream in a view is there; a root is the oid by which the view names its tree
abbrev pub IsStreamStop : List ℕ → Site → Loaded → View → ℕ → StreamStop → Type 0
IsStreamStop image site volume view id (Walk root why) = (root ≡ view.root_oid) × IsViewFault image site volume view why
IsStreamStop image site volume view id (Extent why) = HasRefused (view_flat image site volume view) id why
IsStreamStop image site volume view id Order = are_extents_ordered site.block_size (extents_for id (view_flat image site volume view)) ≡ false
IsStreamStop image site volume view id Outside = are_extents_placed site (extents_for id (view_flat image site volume view)) ≡ false
