-- A well-formed container.
use Rattle.std.specs.Prelude.{◌≡◌, ℕ, List, Ok}
use Rattle.apfs_model.specs.Lists.{In}
use Rattle.nx_ring.specs.Checkpoint.{Seen, site_of}
use Rattle.nx_ring.specs.Newest.{newest_of}
use Rattle.vol_view.specs.Heads.{heads_of}
use Rattle.vol_view.specs.Volumes.{metadata_of}
use Rattle.vol_view.specs.LoadStops.{counted_snapshots, map_count, map_xids}
use Rattle.vol_view.specs.Agreement.{Agree}
use Rattle.vol_view.specs.Views.{views_of}
use Rattle.vol_view.specs.declared.head.VolHead.{VolHead}
use Rattle.vol_view.specs.declared.volume.View.{View}
use Rattle.reach_rules.specs.Accounted.{IsAccounted}
use Rattle.view_rules.specs.Rules.{HasTreeRules}
use Rattle.view_rules.specs.declared.profile.Profile.{Profile}
use Rattle.view_rules.specs.declared.profile.Profile.TheVariants.{Strict}
use Rattle.apfs_check.specs.Volumes.{volume_of, volume_ranges}
use Rattle.apfs_check.specs.Data.{HasRightData}

-- the records of a volume's snapshots agree with one another, with the volume and with its object map
abbrev pub HasAgreement : List ℕ → Seen → VolHead → Type 0
HasAgreement image seen head =
    Agree (counted_snapshots image (site_of seen) head) (map_count image (site_of seen) head) (map_xids image (site_of seen) head) (metadata_of image (site_of seen) head)

-- a view of a volume has its rules
abbrev pub HasViewRules : Profile → List ℕ → Seen → VolHead → View → Type 0
HasViewRules profile image seen head view = HasTreeRules profile image (site_of seen) (volume_of image seen head) view (volume_ranges image (site_of seen) head)

-- a volume's snapshots agree, each of its views has its rules, and under Strict its data is right
pub record IsRightVolume (profile : Profile) (image : List ℕ) (seen : Seen) (head : VolHead) : Type 0 where
  pub agreed : HasAgreement image seen head
  pub views : (view : View) → In view (views_of (volume_of image seen head) seen) → HasViewRules profile image seen head view
  pub ranges : profile ≡ Strict → HasRightData image seen head

-- the container of a checkpoint is accounted, and each of its volumes is right
pub record IsRightContainer (profile : Profile) (image : List ℕ) (seen : Seen) : Type 0 where
  pub accounted : IsAccounted image seen
  pub volumes : (head : VolHead) → In head (heads_of image seen) → IsRightVolume profile image seen head

-- a well-formed container: it has a newest checkpoint, and the container of that is right
pub record IsWellFormed (profile : Profile) (image : List ℕ) : Type 0 where
  pub seen : Seen
  pub newest : newest_of image ≡ Ok seen
  pub right : IsRightContainer profile image seen
