-- The blocks that a view holds, and those that no other view of its volume holds. The volume's superblock, its map and its snapshot metadata tree are held by none.
use Rattle.std.specs.Prelude.{◌≡◌, ◌⊎◌, ℕ, true, false, List, Some}
use Rattle.apfs_model.specs.Blocks.{is_in}
use Rattle.apfs_model.specs.Lists.{In}
use Rattle.nx_ring.specs.Checkpoint.{Seen, site_of}
use Rattle.fs_record.specs.Facts.{Fact}
use Rattle.fs_record.specs.StreamExtents.{extent_blocks, is_hole}
use Rattle.fs_record.specs.declared.extents.FileExt.{FileExt}
use Rattle.vol_view.specs.Volumes.{Loaded}
use Rattle.ext_ref.specs.Ranges.{node_blocks_of}
use Rattle.reach_rules.specs.declared.naming.LookUp.TheVariants.{InView}
use Rattle.reach_rules.specs.declared.naming.Naming.{Naming}
use Rattle.reach_rules.specs.Resolved.{Found}
use Rattle.reach_rules.specs.Live.{Names}
use Rattle.view_rules.specs.Rules.{view_facts}
use Rattle.use_report.specs.Views.{views_kept, at_of}
use Rattle.use_report.specs.declared.kept.KeptView.{KeptView}

-- a block that a record of the volume's map gives, to which a live naming resolves that is looked up in the view
pub record IsRecordHeld (image : List ℕ) (seen : Seen) (volume : Loaded) (kept : KeptView) (block : ℕ) : Type 0 where
  pub naming : Naming
  pub object : Found
  pub names : Names image seen naming object
  pub in_view : naming.how ≡ InView (at_of volume kept)
  pub block_is : object.block ≡ block

-- a block that an extent of the view covers, which isn't a hole
pub record IsExtentHeld (image : List ℕ) (seen : Seen) (volume : Loaded) (kept : KeptView) (block : ℕ) : Type 0 where
  pub extent : Fact FileExt
  pub one : In extent (view_facts image (site_of seen) volume kept.view).extents
  pub no_hole : is_hole extent.what ≡ false
  pub covers : is_in block extent.what.block (extent_blocks (site_of seen).block_size extent.what) ≡ true

-- a node of the view's extent reference tree
abbrev pub IsNodeHeld : List ℕ → Seen → KeptView → ℕ → Type 0
IsNodeHeld image seen kept block = In block (node_blocks_of image (site_of seen) kept.extents_root)

-- the snapshot's superblock
abbrev pub IsSuperHeld : KeptView → ℕ → Type 0
IsSuperHeld kept block = kept.super_block ≡ Some block

-- a view holds a block
abbrev pub IsHeld : List ℕ → Seen → Loaded → KeptView → ℕ → Type 0
IsHeld image seen volume kept block =
    IsRecordHeld image seen volume kept block
    ⊎ (IsExtentHeld image seen volume kept block
    ⊎ (IsNodeHeld image seen kept block
    ⊎ IsSuperHeld kept block))

-- a view holds a block, and no other view of its volume does
pub record IsOnlyHeld (image : List ℕ) (seen : Seen) (volume : Loaded) (kept : KeptView) (block : ℕ) : Type 0 where
  pub held : IsHeld image seen volume kept block
  pub alone : (other : KeptView) → In other (views_kept volume seen) → (other.place ≡ kept.place → ⊥) → IsHeld image seen volume other block → ⊥

-- some view of a volume holds a block
abbrev pub IsHeldByAny : List ℕ → Seen → Loaded → ℕ → Type 0
IsHeldByAny image seen volume block = (kept : KeptView) × In kept (views_kept volume seen) × IsHeld image seen volume kept block
