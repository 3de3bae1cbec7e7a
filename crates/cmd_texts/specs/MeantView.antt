-- The view that is meant: of the volume that is meant, as it is or as a snapshot keeps it.
use Rattle.std.specs.Prelude.{◌≡◌, ℕ, List, slice_get, Option, None, Some, option_map, option_and_then}
use Rattle.cmd_words.specs.Asked.{AskedTarget}
use Rattle.nx_ring.specs.Checkpoint.{Seen, site_of}
use Rattle.vol_view.specs.Volumes.{Loaded}
use Rattle.vol_view.specs.Views.{live_of, past_of, by_name_of}
use Rattle.vol_view.specs.declared.volume.View.{View}
use Rattle.path_search.specs.Stops.{IsLawful}
use Rattle.cmd_texts.specs.Meant.{IsMeantVolume}

-- the view that is meant of a volume: the live one where no snapshot is named, otherwise that of the snapshot of the name, where there is one
abbrev pub view_of : Loaded → Seen → Option (List ℕ) → Option View
view_of volume seen None = Some (live_of volume seen)
view_of volume seen (Some name) = option_map (past_of volume) (option_and_then (slice_get volume.snaps) (by_name_of volume name))

-- the view that is meant, of the newest checkpoint and of the volume that is meant
pub record IsMeantView (image : List ℕ) (target : AskedTarget) (seen : Seen) (volume : Loaded) (view : View) : Type 0 where
  pub volume_is : IsMeantVolume image target.volume seen volume.head volume
  pub same : view_of volume seen target.snapshot ≡ Some view

-- there is a view that is meant
pub record HasView (image : List ℕ) (target : AskedTarget) : Type 0 where
  pub seen : Seen
  pub volume : Loaded
  pub view : View
  pub is : IsMeantView image target seen volume view

-- the volume that is meant has no snapshot of the name
pub record HasNoSnapshot (image : List ℕ) (target : AskedTarget) : Type 0 where
  pub seen : Seen
  pub volume : Loaded
  pub volume_is : IsMeantVolume image target.volume seen volume.head volume
  pub none : view_of volume seen target.snapshot ≡ None

-- the view that is meant meets its rules, where there is one
abbrev pub IsLawfulView : List ℕ → AskedTarget → Type 0
IsLawfulView image target = (seen : Seen) (volume : Loaded) (view : View) → IsMeantView image target seen volume view → IsLawful image (site_of seen) volume view
