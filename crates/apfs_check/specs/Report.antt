-- What is told of a well-formed container.
use Rattle.std.specs.Prelude.{◌≡◌, ℕ, ◌-◌, List, length, map, sum, Ok}
use Rattle.apfs_model.specs.Counts.{given}
use Rattle.nx_ring.specs.Checkpoint.{Seen, site_of}
use Rattle.nx_ring.specs.Newest.{newest_of}
use Rattle.vol_view.specs.Heads.{heads_of}
use Rattle.vol_view.specs.Views.{views_of, view_flat}
use Rattle.vol_view.specs.declared.head.VolHead.{VolHead}
use Rattle.vol_view.specs.declared.volume.View.{View}
use Rattle.reach_rules.specs.Tally.{IsObjectCount, IsOwnedCount}
use Rattle.view_rules.specs.declared.notes.Note.{Note}
use Rattle.view_rules.specs.declared.profile.Profile.{Profile}
use Rattle.apfs_check.specs.Volumes.{volume_of}
use Rattle.apfs_check.specs.Notes.{notes_of}
use Rattle.apfs_check.specs.WellFormed.{IsWellFormed}

-- how many views a volume has: one, and one for each of its snapshots
abbrev pub view_count : List ℕ → Seen → VolHead → ℕ
view_count image seen head = length (views_of (volume_of image seen head) seen)

-- how many records a view has
abbrev pub record_count : List ℕ → Seen → VolHead → View → ℕ
record_count image seen head view = length (view_flat image (site_of seen) (volume_of image seen head) view)

-- how many views all volumes have
unfoldable pub views_in : List ℕ → Seen → ℕ
views_in image seen = sum (map (view_count image seen) (heads_of image seen))

-- how many records all views of a volume have; a record that several views have counts in each of them
abbrev pub records_of_volume : List ℕ → Seen → VolHead → ℕ
records_of_volume image seen head = sum (map (record_count image seen head) (views_of (volume_of image seen head) seen))

-- how many records all views have
unfoldable pub records_in : List ℕ → Seen → ℕ
records_in image seen = sum (map (records_of_volume image seen) (heads_of image seen))

-- what is told of a container: the transaction of its newest checkpoint, the numbers of its volumes, views, named objects, records,
-- owned blocks and other blocks, and its notes
pub record Told : Type 0 where
  pub xid : ℕ
  pub volumes : ℕ
  pub views : ℕ
  pub objects : ℕ
  pub records : ℕ
  pub used : ℕ
  pub free : ℕ
  pub notes : List Note

-- this is what is told of the container of a checkpoint
pub record IsToldOf (profile : Profile) (image : List ℕ) (seen : Seen) (told : Told) : Type 0 where
  pub xid : told.xid ≡ seen.line.xid
  pub volumes : told.volumes ≡ length (heads_of image seen)
  pub views : told.views ≡ given (views_in image seen)
  pub objects : IsObjectCount image seen told.objects
  pub records : told.records ≡ given (records_in image seen)
  pub used : IsOwnedCount image seen told.used
  pub free : told.free ≡ (site_of seen).blocks - told.used
  pub notes : told.notes ≡ notes_of profile image seen

-- this is what is told of a container
pub record IsReport (profile : Profile) (image : List ℕ) (told : Told) : Type 0 where
  pub seen : Seen
  pub newest : newest_of image ≡ Ok seen
  pub same : IsToldOf profile image seen told

-- an image is that of a well-formed container, and this is what is told of it
pub record IsChecked (profile : Profile) (image : List ℕ) (told : Told) : Type 0 where
  pub right : IsWellFormed profile image
  pub report : IsReport profile image told
