-- Whether ranges settle with the bits of a container and of its pool.
use Rattle.std.specs.Prelude.{◌≡◌, ◌⊎◌, ℕ, ◌-◌, ◌<◌, Bool, true, false, List, slice_get}
use Rattle.std.specs.List.{list_any}
use Rattle.apfs_model.specs.Bytes.{bit_at}
use Rattle.apfs_model.specs.Blocks.{is_in, is_inside}
use Rattle.apfs_model.specs.Lists.{In, passes}
use Rattle.space_map.specs.Fields.{chunks_of, pool_base_of}
use Rattle.space_map.specs.Chunks.{chunk_at}
use Rattle.space_map.specs.Marks.{is_marked}
use Rattle.space_map.specs.Tests.{is_free_count}
use Rattle.reach_rules.specs.declared.fault.ReachFault.{ReachFault}
use Rattle.reach_rules.specs.declared.fault.ReachFault.TheVariants.{Unsound, Unnamed, NamedTwice, OwnedTwice, Outside, UnusedMapping, Leaked, Missing, PoolLeaked, PoolMissing, FreeCount, Space, Pool, Tree, Value}
use Rattle.reach_rules.specs.Faults.{is_of_pool}
use Rattle.reach_rules.specs.Tally.{IsNumberOf}
use Rattle.reach_rules.specs.Reached.{Whole, AreInPool}

-- a range has a block
abbrev pub has_block : ℕ → ℕ × ℕ → Bool
has_block block range = is_in block range.0 range.1

-- a block lies in one of some ranges
abbrev pub is_held : List (ℕ × ℕ) → ℕ → Bool
is_held ranges block = list_any (has_block block) ranges

-- the range of a place has a block
abbrev pub is_held_at : List (ℕ × ℕ) → ℕ → ℕ → Bool
is_held_at ranges block i = passes (slice_get ranges i) (has_block block)

-- a block lies in two of some ranges
pub record IsHeldTwice (ranges : List (ℕ × ℕ)) (block : ℕ) : Type 0 where
  pub one : ℕ
  pub other : ℕ
  pub before : one < other
  pub one_has : is_held_at ranges block one ≡ true
  pub other_has : is_held_at ranges block other ≡ true

-- no block lies in two of some ranges
abbrev pub AreApart : List (ℕ × ℕ) → Type 0
AreApart ranges = (block : ℕ) → IsHeldTwice ranges block → ⊥

-- the bit of a block of the container
abbrev pub mark_of : List ℕ → Whole → ℕ → Bool
mark_of image whole block = is_marked whole.space.site.block_size image whole.space.manager block

-- the bit of a block of the pool
abbrev pub pool_mark_of : Whole → ℕ → Bool
pool_mark_of whole block = bit_at whole.pool (block - pool_base_of whole.space.manager)

-- a chunk's free count is the number of its free blocks
abbrev pub is_chunk_counted : List ℕ → Whole → ℕ → Bool
is_chunk_counted image whole k = is_free_count whole.space.site.block_size image (chunk_at whole.space.site.block_size image whole.space.manager k)

-- the ranges of the container settle with its bits and free counts: they lie in it, no block lies in two, and the marked blocks are those in them
pub record AreSettled (image : List ℕ) (whole : Whole) : Type 0 where
  pub inside : (range : ℕ × ℕ) → In range whole.owners → is_inside range.0 range.1 whole.space.site.blocks ≡ true
  pub apart : AreApart whole.owners
  pub marked : (block : ℕ) → block < whole.space.site.blocks → mark_of image whole block ≡ is_held whole.owners block
  pub counts : (k : ℕ) → k < chunks_of whole.space.manager → is_chunk_counted image whole k ≡ true

-- the ranges of the pool settle with its bits
pub record ArePoolSettled (whole : Whole) : Type 0 where
  pub inside : AreInPool whole.space.manager whole.pool_owners
  pub apart : AreApart whole.pool_owners
  pub marked : (block : ℕ) → is_of_pool whole.space.manager block ≡ true → pool_mark_of whole block ≡ is_held whole.pool_owners block

-- a block of the container that lies in a range
pub record IsHeldBlock (whole : Whole) (block : ℕ) : Type 0 where
  pub low : block < whole.space.site.blocks
  pub held : is_held whole.owners block ≡ true

-- all settles, and this is the number of blocks in the ranges of the container
pub record IsSettledWith (image : List ℕ) (whole : Whole) (number : ℕ) : Type 0 where
  pub container : AreSettled image whole
  pub pool : ArePoolSettled whole
  pub blocks : IsNumberOf (IsHeldBlock whole) number

-- a range of the container begins at a block and leaves it
pub record HasOutside (whole : Whole) (block : ℕ) : Type 0 where
  pub range : ℕ × ℕ
  pub one : In range whole.owners
  pub leaves : is_inside range.0 range.1 whole.space.site.blocks ≡ false
  pub at : block ≡ range.0

-- a block of the container has a bit and lies in a range or not
pub record HasBit (image : List ℕ) (whole : Whole) (block : ℕ) (mark held : Bool) : Type 0 where
  pub low : block < whole.space.site.blocks
  pub mark_is : mark_of image whole block ≡ mark
  pub held_is : is_held whole.owners block ≡ held

-- a block of the pool has a bit and lies in a range or not
pub record HasPoolBit (whole : Whole) (block : ℕ) (mark held : Bool) : Type 0 where
  pub inside : is_of_pool whole.space.manager block ≡ true
  pub mark_is : pool_mark_of whole block ≡ mark
  pub held_is : is_held whole.pool_owners block ≡ held

-- a block of the container lies in two of its ranges, or one of the pool in two of the pool's
abbrev pub IsTwice : Whole → ℕ → Type 0
IsTwice whole block =
    ((block < whole.space.site.blocks) × IsHeldTwice whole.owners block)
    ⊎ ((is_of_pool whole.space.manager block ≡ true) × IsHeldTwice whole.pool_owners block)

-- a fault that is named where the ranges and the bits don't settle is there
abbrev pub IsSettleFault : List ℕ → Whole → ReachFault → Type 0
IsSettleFault image whole (Unsound block why) = ⊥
IsSettleFault image whole (Unnamed within oid xid) = ⊥
IsSettleFault image whole (NamedTwice within oid xid) = ⊥
IsSettleFault image whole (OwnedTwice block) = IsTwice whole block
IsSettleFault image whole (Outside block) = HasOutside whole block
IsSettleFault image whole (UnusedMapping within oid xid) = ⊥
IsSettleFault image whole (Leaked block) = HasBit image whole block true false
IsSettleFault image whole (Missing block) = HasBit image whole block false true
IsSettleFault image whole (PoolLeaked block) = HasPoolBit whole block true false
IsSettleFault image whole (PoolMissing block) = HasPoolBit whole block false true
IsSettleFault image whole (FreeCount chunk) = (chunk < chunks_of whole.space.manager) × (is_chunk_counted image whole chunk ≡ false)
IsSettleFault image whole (Space fault) = ⊥
IsSettleFault image whole (Pool fault) = ⊥
IsSettleFault image whole (Tree root item) = ⊥
IsSettleFault image whole (Value root item) = ⊥
