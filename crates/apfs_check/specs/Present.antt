-- What may be wrong with a container, and where it is there.
use Rattle.std.specs.Prelude.{◌≡◌, ◌⊎◌, ℕ, ℤ, List, None, Some, Ok}
use Rattle.apfs_model.specs.Counts.{given}
use Rattle.apfs_model.specs.Lists.{In}
use Rattle.obj_base.specs.declared.stop.Feature.{Feature}
use Rattle.nx_ring.specs.Zero.{IsWrongZero, IsTruncated, IsNonContiguous}
use Rattle.nx_ring.specs.Checkpoint.{Seen, site_of}
use Rattle.nx_ring.specs.Newest.{newest_of, HasNoCheckpoint}
use Rattle.vol_view.specs.Views.{rooted_views}
use Rattle.vol_view.specs.LoadStops.{IsLoadStop}
use Rattle.vol_view.specs.declared.head.VolHead.{VolHead}
use Rattle.vol_view.specs.declared.stop.VolStop.{VolStop}
use Rattle.vol_view.specs.declared.stop.VolStop.TheVariants as volumes
use Rattle.vol_view.specs.declared.volume.View.{View}
use Rattle.ext_ref.specs.declared.range.NewRange.{NewRange}
use Rattle.space_map.specs.declared.fault.SpaceFault.TheVariants as spaces
use Rattle.space_pool.specs.declared.fault.PoolFault.TheVariants as pools
use Rattle.reach_rules.specs.Faults as reach
use Rattle.reach_rules.specs.Features.{HasFeature}
use Rattle.reach_rules.specs.declared.fault.ReachFault.{ReachFault}
use Rattle.reach_rules.specs.declared.fault.ReachFault.TheVariants as sweeps
use Rattle.view_rules.specs.Rules.{IsTreeFault}
use Rattle.view_rules.specs.declared.fault.TreeFault.{TreeFault}
use Rattle.view_rules.specs.declared.fault.TreeFault.TheVariants as trees
use Rattle.view_rules.specs.declared.profile.Profile.{Profile}
use Rattle.view_rules.specs.declared.profile.Profile.TheVariants.{Strict}
use Rattle.apfs_check.specs.declared.fault.Fault.{Fault}
use Rattle.apfs_check.specs.declared.fault.Fault.TheVariants.{BlockZero, Truncated, NoCheckpoint, Unsound, Unnamed, NamedTwice, OwnedTwice, Outside, UnusedMapping, Leaked, Missing, PoolLeaked, PoolMissing, SpaceGeometry, SpaceCab, SpaceCib, SpaceIndex, SpacePlace, SpaceFreeCount, SpaceFreeTotal, PoolCount, PoolIndex, PoolPlace, SnapRecord, SnapCount, SnapName, OmapSnaps, TreeOrder, TreeCounts, Order, Counts, TreeRecord, Record, DupName, Hash, NoParent, NoInode, KindMismatch, DirNames, Unreached, Children, Links, SiblingLost, ExtentOrder, ExtentPlace, ExtentUncovered, LinkTarget, Stream, AttrOwner, NameHash, DataUnreached, DataCount}
use Rattle.apfs_check.specs.Volumes.{sound_heads, volume_of, volume_ranges}
use Rattle.apfs_check.specs.Data.{unreached_in, miscounted_in, streams_in}

-- a fact of the newest checkpoint
pub record OfNewest (image : List ℕ) (P : Seen → Type 0) : Type 0 where
  pub seen : Seen
  pub newest : newest_of image ≡ Ok seen
  pub fact : P seen

-- a fault of named objects, or of the account of blocks, is there
abbrev pub HasReachFault : List ℕ → ReachFault → Type 0
HasReachFault image fault = OfNewest image (λ seen. reach.Present image seen fault)

-- a fault of a volume whose superblock is sound
pub record IsVolumeFault (image : List ℕ) (fault : VolStop) (seen : Seen) : Type 0 where
  pub head : VolHead
  pub one : In head (sound_heads image seen)
  pub there : IsLoadStop image (site_of seen) head fault

-- a fault of a volume is there
abbrev pub HasVolumeFault : List ℕ → VolStop → Type 0
HasVolumeFault image fault = OfNewest image (IsVolumeFault image fault)

-- a fact of a view of a volume whose superblock is sound; a snapshot's view is looked at where the snapshot's superblock is sound
pub record OfView (image : List ℕ) (seen : Seen) (P : VolHead → View → Type 0) : Type 0 where
  pub head : VolHead
  pub one : In head (sound_heads image seen)
  pub view : View
  pub rooted : In view (rooted_views image seen head)
  pub fact : P head view

-- a fault of a view is there
abbrev pub HasViewFault : Profile → List ℕ → TreeFault → Type 0
HasViewFault profile image fault =
    OfNewest image (λ seen. OfView image seen (λ head view.
    IsTreeFault profile image (site_of seen) (volume_of image seen head) view (volume_ranges image (site_of seen) head) fault))

-- DataUnreached: no extent of a volume reaches these blocks of its new ranges, and they are a longest run of such
pub record IsDataUnreached (profile : Profile) (image : List ℕ) (slot block length : ℕ) (seen : Seen) : Type 0 where
  pub strict : profile ≡ Strict
  pub head : VolHead
  pub one : In head (sound_heads image seen)
  pub slot_is : slot ≡ head.slot
  pub run : In (block, length) (unreached_in image seen head)

-- DataCount: in a volume without snapshots a new range from this block on stores another count than the number of its streams
pub record IsDataCount (profile : Profile) (image : List ℕ) (slot block : ℕ) (stored : ℤ) (streams : ℕ) (seen : Seen) : Type 0 where
  pub strict : profile ≡ Strict
  pub head : VolHead
  pub one : In head (sound_heads image seen)
  pub slot_is : slot ≡ head.slot
  pub range : NewRange
  pub wrong : In range (miscounted_in image seen head)
  pub block_is : block ≡ range.first
  pub stored_is : stored ≡ range.count
  pub streams_are : streams ≡ given (streams_in image seen head range)

-- a fault is there, at the place that it names
abbrev pub IsPresent : Profile → List ℕ → Fault → Type 0
IsPresent profile image BlockZero = IsWrongZero image
IsPresent profile image (Truncated have need) = IsTruncated image have need
IsPresent profile image NoCheckpoint = HasNoCheckpoint image
IsPresent profile image (Unsound block why) = HasReachFault image (sweeps.Unsound block why)
IsPresent profile image (Unnamed within oid xid) = HasReachFault image (sweeps.Unnamed within oid xid)
IsPresent profile image (NamedTwice within oid xid) = HasReachFault image (sweeps.NamedTwice within oid xid)
IsPresent profile image (OwnedTwice block) = HasReachFault image (sweeps.OwnedTwice block)
IsPresent profile image (Outside block) = HasReachFault image (sweeps.Outside block)
IsPresent profile image (UnusedMapping within oid xid) = HasReachFault image (sweeps.UnusedMapping within oid xid)
IsPresent profile image (Leaked block) = HasReachFault image (sweeps.Leaked block)
IsPresent profile image (Missing block) = HasReachFault image (sweeps.Missing block)
IsPresent profile image (PoolLeaked block) = HasReachFault image (sweeps.PoolLeaked block)
IsPresent profile image (PoolMissing block) = HasReachFault image (sweeps.PoolMissing block)
IsPresent profile image SpaceGeometry = HasReachFault image (sweeps.Space spaces.Geometry)
IsPresent profile image (SpaceCab i) = HasReachFault image (sweeps.Space (spaces.Cab i))
IsPresent profile image (SpaceCib i) = HasReachFault image (sweeps.Space (spaces.Cib i))
IsPresent profile image (SpaceIndex k) = HasReachFault image (sweeps.Space (spaces.Index k))
IsPresent profile image (SpacePlace block) = HasReachFault image (sweeps.Space (spaces.Place block))
IsPresent profile image (SpaceFreeCount k) = HasReachFault image (sweeps.FreeCount k)
IsPresent profile image SpaceFreeTotal = HasReachFault image (sweeps.Space spaces.FreeTotal)
IsPresent profile image PoolCount = HasReachFault image (sweeps.Pool pools.Count)
IsPresent profile image (PoolIndex i) = HasReachFault image (sweeps.Pool (pools.Index i))
IsPresent profile image (PoolPlace block) = HasReachFault image (sweeps.Pool (pools.Place block))
IsPresent profile image (SnapRecord slot) = HasVolumeFault image (volumes.SnapRecord slot)
IsPresent profile image (SnapCount slot) = HasVolumeFault image (volumes.SnapCount slot)
IsPresent profile image (SnapName slot) = HasVolumeFault image (volumes.SnapName slot)
IsPresent profile image (OmapSnaps slot) = HasVolumeFault image (volumes.OmapSnaps slot)
IsPresent profile image (TreeOrder root item) = HasReachFault image (sweeps.Tree root (Some item))
IsPresent profile image (TreeCounts root) = HasReachFault image (sweeps.Tree root None)
IsPresent profile image (Order slot xid item) = HasViewFault profile image (trees.Order slot xid item)
IsPresent profile image (Counts slot xid) = HasViewFault profile image (trees.Counts slot xid)
IsPresent profile image (TreeRecord root item) = HasReachFault image (sweeps.Value root item)
IsPresent profile image (Record slot xid item why) = HasViewFault profile image (trees.Record slot xid item why)
IsPresent profile image (DupName at) = HasViewFault profile image (trees.DupName at)
IsPresent profile image (Hash at) = HasViewFault profile image (trees.Hash at)
IsPresent profile image (NoParent at) = HasViewFault profile image (trees.NoParent at)
IsPresent profile image (NoInode slot xid id name) = HasViewFault profile image (trees.NoInode slot xid id name)
IsPresent profile image (KindMismatch at) = HasViewFault profile image (trees.KindMismatch at)
IsPresent profile image (DirNames at) = HasViewFault profile image (trees.DirNames at)
IsPresent profile image (Unreached at) = HasViewFault profile image (trees.Unreached at)
IsPresent profile image (Children at) = HasViewFault profile image (trees.Children at)
IsPresent profile image (Links at) = HasViewFault profile image (trees.Links at)
IsPresent profile image (SiblingLost at) = HasViewFault profile image (trees.SiblingLost at)
IsPresent profile image (ExtentOrder at) = HasViewFault profile image (trees.ExtentOrder at)
IsPresent profile image (ExtentPlace at) = HasViewFault profile image (trees.ExtentPlace at)
IsPresent profile image (ExtentUncovered at) = HasViewFault profile image (trees.ExtentUncovered at)
IsPresent profile image (LinkTarget at) = HasViewFault profile image (trees.LinkTarget at)
IsPresent profile image (Stream at) = HasViewFault profile image (trees.Stream at)
IsPresent profile image (AttrOwner at) = HasViewFault profile image (trees.AttrOwner at)
IsPresent profile image (NameHash at) = HasViewFault profile image (trees.NameHash at)
IsPresent profile image (DataUnreached slot block length) = OfNewest image (IsDataUnreached profile image slot block length)
IsPresent profile image (DataCount slot block stored streams) = OfNewest image (IsDataCount profile image slot block stored streams)

-- a feature is there, and this is the block that is named for it
abbrev pub IsFeature : List ℕ → Feature → ℕ → Type 0
IsFeature image feature block = IsNonContiguous image feature block ⊎ OfNewest image (λ seen. HasFeature image seen feature block)
