-- What views hold by the records that they share.
use Rattle.std.specs.Prelude.{◌≡◌, ◌⊎◌, ◌↔◌, ℕ, ◌-◌, ◌^◌, ◌<◌, Bool, true, false, ◌==◌, List, length, Some, slice_get}
use Rattle.apfs_model.specs.Blocks.{block_of, in_container}
use Rattle.apfs_model.specs.Lists.{In}
use Rattle.obj_base.specs.declared.site.Site.{Site}
use Rattle.nx_ring.specs.Checkpoint.{Seen, site_of}
use Rattle.vol_view.specs.Volumes.{Loaded}
use Rattle.ext_ref.specs.Ranges.{node_blocks_of}
use Rattle.piece_count.specs.Covered.{is_covered}
use Rattle.piece_count.specs.declared.piece.Holdings.{Holdings}
use Rattle.reach_rules.specs.declared.naming.Namer.{Namer}
use Rattle.view_sweep.specs.declared.sets.ViewSet.{ViewSet}
use Rattle.view_sweep.specs.declared.wanted.SweptView.{SweptView}
use Rattle.view_sweep.specs.declared.wanted.Head.{Head}
use Rattle.view_sweep.specs.declared.used.Reach.{Reach}
use Rattle.view_sweep.specs.declared.used.Share.{Share}
use Rattle.view_sweep.specs.declared.used.SharedAs.{SharedAs}
use Rattle.view_sweep.specs.declared.used.SharedAs.TheVariants.{Root, Metadata, Node}
use Rattle.view_sweep.specs.Sets.{set_at}
use Rattle.view_sweep.specs.Named.{head_namings, AreReached}
use Rattle.view_sweep.specs.Shared.{head_views, is_shared, AreSharedBy}
use Rattle.use_report.specs.Counted.{Grows, HasExactly}
use Rattle.use_report.specs.Heads.{AreHeadsOf}
use Rattle.use_report.specs.Held.{IsHeld}
use Rattle.use_report.specs.Leaves.{IsOfNode, IsPlacedNode}
use Rattle.use_report.specs.Runs.{head_place, AreHeadRuns}
use Rattle.use_report.specs.declared.kept.KeptView.{KeptView}
use Rattle.use_report.specs.declared.pieces.Pieces.{Pieces}

-- the object of a record may be a leaf
abbrev pub may_be_leaf : SharedAs → Bool
may_be_leaf Root = true
may_be_leaf Metadata = false
may_be_leaf (Node level) = level == 0

-- the bytes of a record's object
abbrev pub bytes_of : List ℕ → Site → Share → List ℕ
bytes_of image site share = block_of site.block_size image share.used.mapping.paddr

-- a block that a record gives: that of its object, and where it is a leaf those of the extents whose records stand in it
abbrev pub IsOfShare : List ℕ → Site → Share → ℕ → Type 0
IsOfShare image site share block = (block ≡ share.used.mapping.paddr) ⊎ ((may_be_leaf share.expected ≡ true) × IsOfNode share.hashed site (bytes_of image site share) block)

-- its extents lie in the container
abbrev pub IsPlacedShare : List ℕ → Site → Share → Type 0
IsPlacedShare image site share = may_be_leaf share.expected ≡ true → IsPlacedNode share.hashed site (bytes_of image site share)

-- what a record gives was added
pub record AddsShare (image : List ℕ) (site : Site) (share : Share) (old new : Pieces) : Type 0 where
  pub grows : Grows old new (IsOfShare image site share)
  pub placed : IsPlacedShare image site share

-- a block that one of some records gives to the view in a place
abbrev pub IsOfShares : List ℕ → Site → List ViewSet → ℕ → List Share → ℕ → ℕ → Type 0
IsOfShares image site sets many shares view block = (share : Share) × In share shares × (is_shared sets share (head_place many view) ≡ true) × IsOfShare image site share block

-- pieces have what some records give to so many views
pub record AreShared (image : List ℕ) (site : Site) (sets : List ViewSet) (many : ℕ) (shares : List Share) (pieces : Holdings) : Type 0 where
  pub held : (view block : ℕ) → view < many → block < 2 ^ 64 - 1 → (is_covered pieces view block ≡ true) ↔ IsOfShares image site sets many shares view block
  pub placed : (share : Share) → In share shares → IsPlacedShare image site share

-- the numbers of sets, the sets and the blocks of records are in order
pub record AreInOrder (blocks many : ℕ) (sets : List ViewSet) (shares : List Share) : Type 0 where
  pub number : (share : Share) → In share shares → share.set < length sets
  pub runs : (n : ℕ) → n < length sets → AreHeadRuns many (set_at sets n)
  pub placed : (share : Share) → In share shares → in_container blocks share.used.mapping.paddr ≡ Some share.used.mapping.paddr

-- a block that is a view's own: a node of its extent reference tree, or a snapshot's superblock
abbrev pub IsOwn : List ℕ → Site → KeptView → ℕ → Type 0
IsOwn image site kept block = In block (node_blocks_of image site kept.extents_root) ⊎ (kept.super_block ≡ Some block)

-- the same of the view in a place, of the first so many
pub record IsOwnAt (image : List ℕ) (site : Site) (views : List KeptView) (many view block : ℕ) : Type 0 where
  pub low : view < many
  pub kept : KeptView
  pub found : slice_get views view ≡ Some kept
  pub own : IsOwn image site kept block

-- what is their own of the first so many views was added
abbrev pub AddsOwns : List ℕ → Site → List KeptView → ℕ → Holdings → Holdings → Type 0
AddsOwns image site views many old new = (view block : ℕ) → block < 2 ^ 64 - 1 → (is_covered new view block ≡ true) ↔ ((is_covered old view block ≡ true) ⊎ IsOwnAt image site views many view block)

-- these are the records that the views of a volume use
pub record IsReachOf (image : List ℕ) (seen : Seen) (volume : Loaded) (views : List KeptView) (reach : Reach) : Type 0 where
  pub heads : List Head
  pub of_views : AreHeadsOf volume views heads
  pub reached : (supers : SweptView → Namer) → AreReached image seen (head_namings supers heads) reach.used.items
  pub shared : (supers : SweptView → Namer) → AreSharedBy image seen (head_views heads) (head_namings supers heads) reach.sets.items reach.shares.items

-- pieces have exactly what each of some views holds
abbrev pub AreHeldBy : List ℕ → Seen → Loaded → List KeptView → Holdings → Type 0
AreHeldBy image seen volume views pieces = (i : ℕ) (kept : KeptView) → slice_get views i ≡ Some kept → HasExactly (site_of seen).blocks (IsHeld image seen volume kept) (is_covered pieces i)
