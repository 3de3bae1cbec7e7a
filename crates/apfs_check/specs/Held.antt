-- What is held of the views and the volumes that were found right, on the way of a check.
use Rattle.std.specs.Prelude.{◌≡◌, ℕ, ◌+◌, List, [], ◌++◌, map, flat_map, sum}
use Rattle.apfs_model.specs.Counts.{given}
use Rattle.apfs_model.specs.Lists.{In}
use Rattle.nx_ring.specs.Checkpoint.{Seen}
use Rattle.vol_view.specs.Views.{views_of}
use Rattle.vol_view.specs.declared.head.VolHead.{VolHead}
use Rattle.vol_view.specs.declared.volume.View.{View}
use Rattle.view_rules.specs.declared.notes.Note.{Note}
use Rattle.view_rules.specs.declared.profile.Profile.{Profile}
use Rattle.view_rules.specs.declared.profile.Profile.TheVariants.{Plain, Strict}
use Rattle.apfs_check.specs.Volumes.{volume_of}
use Rattle.apfs_check.specs.Data.{HasRightData}
use Rattle.apfs_check.specs.Notes.{of_views, view_hash_notes, view_unnamed_notes, unreached_notes, count_notes}
use Rattle.apfs_check.specs.WellFormed.{HasViewRules}
use Rattle.apfs_check.specs.Report.{view_count, record_count, records_of_volume}

-- the numbers of views and of records, and the notes of each kind
pub record Held : Type 0 where
  pub views : ℕ
  pub records : ℕ
  pub hashes : List Note
  pub unreached : List Note
  pub unnamed : List Note
  pub counts : List Note

-- nothing yet
abbrev pub nothing_held : Held
nothing_held = record { views = 0; records = 0; hashes = []; unreached = []; unnamed = []; counts = [] }

-- notes that are none under Strict, since what they tell of is a fault there
abbrev pub unless_strict : Profile → List Note → List Note
unless_strict Plain notes = notes
unless_strict Strict notes = []

-- the notes on hashes of a view
abbrev pub view_hashes : Profile → List ℕ → Seen → VolHead → View → List Note
view_hashes profile image seen head view = unless_strict profile (view_hash_notes image seen head view)

-- the notes on unreached blocks of a volume
abbrev pub unreached_under : Profile → List ℕ → Seen → VolHead → List Note
unreached_under profile image seen head = unless_strict profile (unreached_notes image seen head)

-- the notes on counts of a volume
abbrev pub counts_under : Profile → List ℕ → Seen → VolHead → List Note
counts_under profile image seen head = unless_strict profile (count_notes image seen head)

-- some views of a volume have their rules, and what is told of them was added; counts stand at the greatest number
pub record AddsViews (profile : Profile) (image : List ℕ) (seen : Seen) (head : VolHead) (views : List View) (old new : Held) : Type 0 where
  pub right : (view : View) → In view views → HasViewRules profile image seen head view
  pub records : given new.records ≡ given (old.records + sum (map (record_count image seen head) views))
  pub hashes : new.hashes ≡ old.hashes ++ flat_map (view_hashes profile image seen head) views
  pub unnamed : new.unnamed ≡ old.unnamed ++ flat_map (view_unnamed_notes image seen head) views
  pub views_same : new.views ≡ old.views
  pub unreached_same : new.unreached ≡ old.unreached
  pub counts_same : new.counts ≡ old.counts

-- a volume's data is right under Strict, and the notes on it were added
pub record AddsData (profile : Profile) (image : List ℕ) (seen : Seen) (head : VolHead) (old new : Held) : Type 0 where
  pub right : profile ≡ Strict → HasRightData image seen head
  pub unreached : new.unreached ≡ old.unreached ++ unreached_under profile image seen head
  pub counts : new.counts ≡ old.counts ++ counts_under profile image seen head
  pub views_same : new.views ≡ old.views
  pub records_same : new.records ≡ old.records
  pub hashes_same : new.hashes ≡ old.hashes
  pub unnamed_same : new.unnamed ≡ old.unnamed

-- the views of some volumes have their rules, the data of these is right under Strict, and what is told of them was added
pub record AddsVolumes (profile : Profile) (image : List ℕ) (seen : Seen) (heads : List VolHead) (old new : Held) : Type 0 where
  pub right : (head : VolHead) → In head heads → (view : View) → In view (views_of (volume_of image seen head) seen) → HasViewRules profile image seen head view
  pub data_right : (head : VolHead) → In head heads → profile ≡ Strict → HasRightData image seen head
  pub views : given new.views ≡ given (old.views + sum (map (view_count image seen) heads))
  pub records : given new.records ≡ given (old.records + sum (map (records_of_volume image seen) heads))
  pub hashes : new.hashes ≡ old.hashes ++ flat_map (of_views (view_hashes profile) image seen) heads
  pub unreached : new.unreached ≡ old.unreached ++ flat_map (unreached_under profile image seen) heads
  pub unnamed : new.unnamed ≡ old.unnamed ++ flat_map (of_views view_unnamed_notes image seen) heads
  pub counts : new.counts ≡ old.counts ++ flat_map (counts_under profile image seen) heads
