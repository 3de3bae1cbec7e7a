-- What may be wrong with named objects and with the account of blocks, and where it is there.
use Rattle.std.specs.Prelude.{◌≡◌, ◌⊎◌, ℕ, ◌/◌, ◌<◌, Bool, true, false, ◌==◌, List, None, Some, Err}
use Rattle.apfs_model.specs.Blocks.{is_in, is_inside}
use Rattle.obj_base.specs.declared.stop.Bad.TheVariants.{Found as Fails}
use Rattle.obj_base.specs.declared.stop.Within.{Within}
use Rattle.obj_base.specs.declared.stop.Within.TheVariants.{Physical, Ephemeral, Container, Volume}
use Rattle.nx_ring.specs.Checkpoint.{Seen, site_of}
use Rattle.space_map.specs.Fields.{pool_base_of, pool_blocks_of}
use Rattle.space_map.specs.Geometry.{chunk_len}
use Rattle.space_map.specs.Chunks.{chunk_at, is_told}
use Rattle.space_map.specs.Marks.{has_bits, is_marked}
use Rattle.space_map.specs.Tests.{is_free_count}
use Rattle.space_map.specs.Stops.{OfManager, IsFaultOf}
use Rattle.space_map.specs.declared.fault.SpaceFault.{SpaceFault}
use Rattle.space_map.specs.declared.fault.SpaceFault.TheVariants as spaces
use Rattle.space_pool.specs.Bits.{is_pool_shaped, is_pool_marked}
use Rattle.space_pool.specs.Stops.{IsPoolFault, HasOutside}
use Rattle.space_pool.specs.declared.fault.PoolFault.{PoolFault}
use Rattle.space_pool.specs.declared.fault.PoolFault.TheVariants as pools
use Rattle.reach_rules.specs.declared.fault.Why.{Why}
use Rattle.reach_rules.specs.declared.fault.ReachFault.{ReachFault}
use Rattle.reach_rules.specs.declared.fault.ReachFault.TheVariants.{Unsound, Unnamed, NamedTwice, OwnedTwice, Outside, UnusedMapping, Leaked, Missing, PoolLeaked, PoolMissing, FreeCount, Space, Pool, Tree, Value}
use Rattle.reach_rules.specs.Naming.{LookUp, ByBlock, ByMapping, InContainer, InView, Naming}
use Rattle.reach_rules.specs.Resolved.{Found, resolved}
use Rattle.reach_rules.specs.Tested.{tested}
use Rattle.reach_rules.specs.Live.{IsLive, Names}
use Rattle.reach_rules.specs.Maps.{IsUnused}
use Rattle.reach_rules.specs.Owners.{Owner, covers, IsOwner, IsOwned, IsFree}
use Rattle.reach_rules.specs.PoolOwners.{IsPoolOwner, IsPoolOwned, IsPoolFree}
use Rattle.reach_rules.specs.Trees.{IsMisplaced, IsMiscounted, IsShort}

-- the space in which an id is looked up
abbrev pub within_of : LookUp → Within
within_of ByBlock = Physical
within_of ByMapping = Ephemeral
within_of InContainer = Container
within_of (InView view) = Volume view.slot

-- the transaction at which an id is looked up: a view's, and the checkpoint's for the others
abbrev pub xid_of : Seen → LookUp → ℕ
xid_of seen ByBlock = seen.line.xid
xid_of seen ByMapping = seen.line.xid
xid_of seen InContainer = seen.line.xid
xid_of seen (InView view) = view.xid

-- ids that one naming alone may name: those that aren't blocks
abbrev pub is_once : LookUp → Bool
is_once ByBlock = false
is_once ByMapping = true
is_once InContainer = true
is_once (InView view) = true

-- a naming is shown so: its space, its id, and the transaction
pub record IsShown (seen : Seen) (n : Naming) (within : Within) (oid xid : ℕ) : Type 0 where
  pub within_is : within ≡ within_of n.how
  pub oid_is : oid ≡ n.oid
  pub xid_is : xid ≡ xid_of seen n.how

-- Unsound: a named object in a block fails a test
pub record IsUnsound (image : List ℕ) (seen : Seen) (block : ℕ) (why : Why) : Type 0 where
  pub naming : Naming
  pub object : Found
  pub names : Names image seen naming object
  pub at : block ≡ object.block
  pub fails : tested (site_of seen) naming.expected naming.oid object.bytes ≡ Err (Fails why)

-- Unnamed: an id is named that doesn't resolve
pub record IsUnnamed (image : List ℕ) (seen : Seen) (within : Within) (oid xid : ℕ) : Type 0 where
  pub naming : Naming
  pub live : IsLive image seen naming
  pub lost : resolved image seen naming ≡ None
  pub shown : IsShown seen naming within oid xid

-- NamedTwice: two live namings name one ephemeral id, or one virtual id in one view
pub record IsNamedTwice (image : List ℕ) (seen : Seen) (within : Within) (oid xid : ℕ) : Type 0 where
  pub one : Naming
  pub other : Naming
  pub one_live : IsLive image seen one
  pub other_live : IsLive image seen other
  pub once : is_once one.how ≡ true
  pub same_view : one.how ≡ other.how
  pub same_oid : one.oid ≡ other.oid
  pub apart : one ≡ other → ⊥
  pub shown : IsShown seen one within oid xid

-- OwnedTwice: two owners have a block of the container
pub record IsOwnedTwice (image : List ℕ) (seen : Seen) (block : ℕ) : Type 0 where
  pub low : block < (site_of seen).blocks
  pub one : Owner
  pub other : Owner
  pub one_owner : IsOwner image seen one
  pub other_owner : IsOwner image seen other
  pub one_covers : covers one block ≡ true
  pub other_covers : covers other block ≡ true
  pub apart : one ≡ other → ⊥

-- a block of the pool
abbrev pub is_of_pool : List ℕ → ℕ → Bool
is_of_pool manager block = is_in block (pool_base_of manager) (pool_blocks_of manager)

-- OwnedTwice: two owners of the pool have a block of it
pub record IsPoolOwnedTwice (image : List ℕ) (seen : Seen) (block : ℕ) : Type 0 where
  pub inside : OfManager seen (λ manager. is_of_pool manager block ≡ true)
  pub one : Owner
  pub other : Owner
  pub one_owner : IsPoolOwner image seen one
  pub other_owner : IsPoolOwner image seen other
  pub one_covers : covers one block ≡ true
  pub other_covers : covers other block ≡ true
  pub apart : one ≡ other → ⊥

-- an owner of one block or more lies in the container
abbrev pub lies_inside : Seen → Owner → Bool
lies_inside seen a = is_inside a.first a.blocks (site_of seen).blocks

-- Outside: an owner begins at a block and leaves the container
pub record IsOutside (image : List ℕ) (seen : Seen) (block : ℕ) : Type 0 where
  pub who : Owner
  pub owner : IsOwner image seen who
  pub some : (who.blocks == 0) ≡ false
  pub leaves : lies_inside seen who ≡ false
  pub at : block ≡ who.first

-- the chunk of a number is told of, and its bits can be read
pub record HasBits (image : List ℕ) (seen : Seen) (manager : List ℕ) (chunk : ℕ) : Type 0 where
  pub told : is_told image (site_of seen) manager chunk ≡ true
  pub bits : has_bits (site_of seen) (chunk_at (site_of seen).block_size image manager chunk) ≡ true

-- the bit of a block of the container can be read, and is this
pub record HasMark (image : List ℕ) (seen : Seen) (block : ℕ) (mark : Bool) : Type 0 where
  pub low : block < (site_of seen).blocks
  pub by : OfManager seen (λ manager. HasBits image seen manager (block / chunk_len (site_of seen).block_size) × (is_marked (site_of seen).block_size image manager block ≡ mark))

-- the bit of a block of the pool can be read, and is this
abbrev pub HasPoolMark : List ℕ → Seen → ℕ → Bool → Type 0
HasPoolMark image seen block mark =
    OfManager seen (λ manager.
    (is_of_pool manager block ≡ true) × (is_pool_shaped (site_of seen) manager ≡ true) × (is_pool_marked (site_of seen).block_size image manager block ≡ mark))

-- FreeCount: the bits of a chunk can be read, and its free count is another number than that of its free blocks
abbrev pub IsMiscountedChunk : List ℕ → Seen → ℕ → Type 0
IsMiscountedChunk image seen k =
    OfManager seen (λ manager.
    HasBits image seen manager k × (is_free_count (site_of seen).block_size image (chunk_at (site_of seen).block_size image manager k) ≡ false))

-- the space manager, or a block that tells of chunks, isn't as it must be; what is unsound or unnamed has faults of its own
abbrev pub IsMisshapen : List ℕ → Seen → SpaceFault → Type 0
IsMisshapen image seen (spaces.Unnamed within oid) = ⊥
IsMisshapen image seen (spaces.Unsound block why) = ⊥
IsMisshapen image seen spaces.Geometry = OfManager seen (λ manager. IsFaultOf image (site_of seen) manager spaces.Geometry)
IsMisshapen image seen (spaces.Cab i) = OfManager seen (λ manager. IsFaultOf image (site_of seen) manager (spaces.Cab i))
IsMisshapen image seen (spaces.Cib i) = OfManager seen (λ manager. IsFaultOf image (site_of seen) manager (spaces.Cib i))
IsMisshapen image seen (spaces.Index k) = OfManager seen (λ manager. IsFaultOf image (site_of seen) manager (spaces.Index k))
IsMisshapen image seen (spaces.Place block) = OfManager seen (λ manager. IsFaultOf image (site_of seen) manager (spaces.Place block))
IsMisshapen image seen spaces.FreeTotal = OfManager seen (λ manager. IsFaultOf image (site_of seen) manager spaces.FreeTotal)

-- the pool's bitmap or the pool's queue isn't as it must be
abbrev pub IsPoolMisshapen : List ℕ → Seen → PoolFault → Type 0
IsPoolMisshapen image seen (pools.Index i) = OfManager seen (λ manager. IsPoolFault seen manager (pools.Index i))
IsPoolMisshapen image seen pools.Count = OfManager seen (λ manager. IsPoolFault seen manager pools.Count)
IsPoolMisshapen image seen (pools.Place block) = OfManager seen (λ manager. HasOutside image seen manager block)
IsPoolMisshapen image seen (pools.Unnamed oid) = ⊥
IsPoolMisshapen image seen (pools.Walk root why) = ⊥
IsPoolMisshapen image seen (pools.Value root item) = ⊥

-- a fault is there, at the place that it names
abbrev pub Present : List ℕ → Seen → ReachFault → Type 0
Present image seen (Unsound block why) = IsUnsound image seen block why
Present image seen (Unnamed within oid xid) = IsUnnamed image seen within oid xid
Present image seen (NamedTwice within oid xid) = IsNamedTwice image seen within oid xid
Present image seen (OwnedTwice block) = IsOwnedTwice image seen block ⊎ IsPoolOwnedTwice image seen block
Present image seen (Outside block) = IsOutside image seen block
Present image seen (UnusedMapping within oid xid) = IsUnused image seen within oid xid
Present image seen (Leaked block) = HasMark image seen block true × IsFree image seen block
Present image seen (Missing block) = HasMark image seen block false × IsOwned image seen block
Present image seen (PoolLeaked block) = HasPoolMark image seen block true × IsPoolFree image seen block
Present image seen (PoolMissing block) = HasPoolMark image seen block false × IsPoolOwned image seen block
Present image seen (FreeCount chunk) = IsMiscountedChunk image seen chunk
Present image seen (Space fault) = IsMisshapen image seen fault
Present image seen (Pool fault) = IsPoolMisshapen image seen fault
Present image seen (Tree root (Some item)) = IsMisplaced image seen root item
Present image seen (Tree root None) = IsMiscounted image seen root
Present image seen (Value root item) = IsShort image seen root item
