-- What the call that opens a stream answers.
use Rattle.std.specs.Prelude.{◌≡◌, ℕ, true, List}
use Rattle.obj_base.specs.declared.stop.Feature.{Feature}
use Rattle.obj_base.specs.declared.site.Site.{Site}
use Rattle.bt_keys.specs.RecordKey.{file_extent_record}
use Rattle.fs_record.specs.StreamExtents.{are_extents_ordered}
use Rattle.fs_record.specs.declared.fault.RecFault.{RecFault}
use Rattle.vol_view.specs.Volumes.{Loaded}
use Rattle.vol_view.specs.Views.{view_flat, is_view_whole, IsViewFeature}
use Rattle.vol_view.specs.Placed.{has_all_records}
use Rattle.vol_view.specs.declared.volume.View.{View}
use Rattle.file_extent.specs.Streams.{Opened, extents_for, are_extents_placed}
use Rattle.file_extent.specs.Opened.{opened_of}
use Rattle.file_extent.specs.Stops.{HasRefused}

-- a feature that is named of a stream is there: of a node of the view
abbrev pub IsStreamFeature : List ℕ → Site → Loaded → View → Feature → ℕ → Type 0
IsStreamFeature image site volume view feature block = IsViewFeature image site volume view feature block

-- this is the stream of an id and a size in a view, its extents are ordered and lie in the container, and no record of one
-- is missing: no gap stands in the view's tree where one may be
pub record IsOpened (image : List ℕ) (site : Site) (volume : Loaded) (view : View) (id size : ℕ) (stream : Opened) : Type 0 where
  pub same : stream ≡ opened_of site (view_flat image site volume view) id size
  pub ordered : are_extents_ordered site.block_size stream.extents ≡ true
  pub placed : are_extents_placed site stream.extents ≡ true
  pub whole : has_all_records image site volume view id file_extent_record ≡ true

-- nothing that could be named of a stream is there: the view's tree is whole, the records of the stream's extents can be read, and the extents are ordered and lie in the container
pub record IsStreamSound (image : List ℕ) (site : Site) (volume : Loaded) (view : View) (id : ℕ) : Type 0 where
  pub whole : is_view_whole image site volume view ≡ true
  pub readable : (why : RecFault) → HasRefused (view_flat image site volume view) id why → ⊥
  pub ordered : are_extents_ordered site.block_size (extents_for id (view_flat image site volume view)) ≡ true
  pub placed : are_extents_placed site (extents_for id (view_flat image site volume view)) ≡ true
