-- The law of a new container.
use Rattle.std.specs.Prelude.{◌≡◌, ℕ, List, [], ◌∷◌, Ok, codes}
use Rattle.nx_ring.specs.Checkpoint.{Seen, site_of}
use Rattle.nx_ring.specs.Newest.{newest_of}
use Rattle.vol_view.specs.Heads.{heads_of}
use Rattle.vol_view.specs.Views.{live_of}
use Rattle.vol_view.specs.declared.head.VolHead.{VolHead}
use Rattle.view_rules.specs.Rules.{view_facts}
use Rattle.view_rules.specs.declared.profile.Profile.{Profile}
use Rattle.view_rules.specs.declared.profile.Profile.TheVariants.{Plain, Strict}
use Rattle.path_search.specs.Listing.{listing}
use Rattle.apfs_check.specs.Volumes.{volume_of}
use Rattle.apfs_check.specs.Report.{IsReport}
use Rattle.apfs_check.specs.WellFormed.{IsWellFormed}
use Rattle.img_format.specs.declared.spec.Spec.{Spec}
use Rattle.img_format.specs.Valid.{IsValid}
use Rattle.img_format.specs.Fresh.{fresh}
use Rattle.fresh_law.specs.Facts.{IsFresh}
use Rattle.fresh_law.specs.Report.{fresh_report}

-- the listing of the root of a volume as it is has nothing
abbrev pub HasEmptyRoot : List ℕ → Seen → VolHead → Type 0
HasEmptyRoot image seen head = listing (view_facts image (site_of seen) (volume_of image seen head) (live_of (volume_of image seen head) seen)) (codes "/") ≡ Ok []

-- a container with one empty volume: it is well-formed under both profiles, its newest checkpoint is of transaction 1, and its one volume has the name and the identifier given, no snapshots, and nothing in its root
pub record HoldsEmptyVolume (image name uuid : List ℕ) : Type 0 where
  pub plain : IsWellFormed Plain image
  pub strict : IsWellFormed Strict image
  pub seen : Seen
  pub newest : newest_of image ≡ Ok seen
  pub transaction : seen.line.xid ≡ 1
  pub head : VolHead
  pub one : heads_of image seen ≡ head ∷ []
  pub named : head.name ≡ name
  pub identified : head.uuid ≡ uuid
  pub counts_none : head.snapshots ≡ 0
  pub lists_none : (volume_of image seen head).snaps ≡ []
  pub empty : HasEmptyRoot image seen head

-- the second step to the law: all of it follows from what the blocks say
abbrev pub SaidHolds : Type 0
SaidHolds = (spec : Spec) (image : List ℕ) → IsValid spec → IsFresh spec image → HoldsEmptyVolume image spec.name spec.volume

-- the law of a new container
abbrev pub FreshHolds : Type 0
FreshHolds = (spec : Spec) → IsValid spec → HoldsEmptyVolume (fresh spec) spec.name spec.volume

-- its report, under each profile
abbrev pub FreshReported : Type 0
FreshReported = (spec : Spec) → IsValid spec → (profile : Profile) → IsReport profile (fresh spec) (fresh_report spec.blocks)
