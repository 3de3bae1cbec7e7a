-- The law of the check, and what follows from a well-formed container.
use Rattle.std.specs.Prelude.{◌≡◌, ◌⊎◌, ◌↔◌, ℕ, List, [], Ok}
use Rattle.apfs_model.specs.Lists.{In}
use Rattle.obj_base.specs.declared.stop.Feature.{Feature}
use Rattle.nx_ring.specs.Checkpoint.{Seen, site_of}
use Rattle.nx_ring.specs.Features as ring
use Rattle.nx_ring.specs.Newest.{newest_of}
use Rattle.vol_view.specs.Heads.{heads_of}
use Rattle.vol_view.specs.Stops.{AreHeads}
use Rattle.vol_view.specs.LoadStops.{IsVolumeOf}
use Rattle.vol_view.specs.Views.{views_of}
use Rattle.vol_view.specs.declared.head.VolHead.{VolHead}
use Rattle.vol_view.specs.declared.volume.View.{View}
use Rattle.reach_rules.specs.Accounted.{IsAccounted}
use Rattle.view_rules.specs.declared.profile.Profile.{Profile}
use Rattle.view_rules.specs.declared.profile.Profile.TheVariants.{Plain, Strict}
use Rattle.apfs_check.specs.Volumes.{volume_of}
use Rattle.apfs_check.specs.WellFormed.{HasViewRules, IsWellFormed}
use Rattle.apfs_check.specs.Present.{IsPresent, IsFeature}
use Rattle.apfs_check.specs.Notes.{of_views, of_volumes, view_hash_notes, unreached_notes, count_notes}
use Rattle.apfs_check.specs.Report.{Told, IsReport}
use Rattle.apfs_check.specs.declared.fault.Fault.{Fault}

-- a fault is present under a profile, or a feature is present
abbrev pub IsFlawed : Profile → List ℕ → Type 0
IsFlawed profile image = ((fault : Fault) × IsPresent profile image fault) ⊎ ((feature : Feature) × ((block : ℕ) × IsFeature image feature block))

-- each image is well-formed, or something is present
abbrev pub WellFormedOrFlawed : Type 0
WellFormedOrFlawed = (profile : Profile) (image : List ℕ) → IsWellFormed profile image ⊎ IsFlawed profile image

-- and never both
abbrev pub NeverBoth : Type 0
NeverBoth = (profile : Profile) (image : List ℕ) → IsFlawed profile image → IsWellFormed profile image → ⊥

-- each well-formed image has a report
abbrev pub HasReport : Type 0
HasReport = (profile : Profile) (image : List ℕ) → IsWellFormed profile image → (told : Told) × IsReport profile image told

-- and one only
abbrev pub OneReport : Type 0
OneReport = (profile : Profile) (image : List ℕ) (a b : Told) → IsReport profile image a → IsReport profile image b → a ≡ b

-- what browsing needs: the container has no feature of its superblock, its volumes are found, each can be loaded, and each of its
-- views has its rules
pub record IsBrowsable (profile : Profile) (image : List ℕ) (seen : Seen) : Type 0 where
  pub newest : newest_of image ≡ Ok seen
  pub plain : ring.container_features seen.nx ≡ []
  pub heads : AreHeads image seen (heads_of image seen)
  pub volumes : (head : VolHead) → In head (heads_of image seen) → IsVolumeOf image (site_of seen) head (volume_of image seen head)
  pub views : (head : VolHead) → In head (heads_of image seen) → (view : View) → In view (views_of (volume_of image seen head) seen) → HasViewRules profile image seen head view

-- each well-formed container can be browsed, and is accounted
abbrev pub Browsed : Type 0
Browsed = (profile : Profile) (image : List ℕ) (w : IsWellFormed profile image) → IsBrowsable profile image w.seen × IsAccounted image w.seen

-- a container has none of the notes whose kinds are faults under Strict
pub record HasNoStrictNotes (image : List ℕ) (seen : Seen) : Type 0 where
  pub hashes : of_volumes (of_views view_hash_notes) image seen ≡ []
  pub unreached : of_volumes unreached_notes image seen ≡ []
  pub counts : of_volumes count_notes image seen ≡ []

-- well-formed under Strict is well-formed under Plain without such notes
abbrev pub StrictIsPlain : Type 0
StrictIsPlain = (image : List ℕ) → IsWellFormed Strict image ↔ ((w : IsWellFormed Plain image) × HasNoStrictNotes image w.seen)
