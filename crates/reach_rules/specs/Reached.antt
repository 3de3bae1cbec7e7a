-- What is reached of a container: its named objects, and its owners as ranges.
use Rattle.std.specs.Prelude.{◌≡◌, ℕ, true, false, ◌==◌, List, map}
use Rattle.apfs_model.specs.Lists.{In, Lists}
use Rattle.apfs_model.specs.Blocks.{is_within}
use Rattle.space_map.specs.Fields.{pool_base_of, pool_blocks_of}
use Rattle.nx_ring.specs.Checkpoint.{Seen}
use Rattle.space_map.specs.Stops.{Known, IsSpaceOf}
use Rattle.space_pool.specs.Stops.{ArePoolBits}
use Rattle.reach_rules.specs.declared.fault.ReachFault.{ReachFault}
use Rattle.reach_rules.specs.declared.fault.ReachFault.TheVariants.{Unsound, Unnamed, NamedTwice, OwnedTwice, Outside, UnusedMapping, Leaked, Missing, PoolLeaked, PoolMissing, FreeCount, Space, Pool, Tree, Value}
use Rattle.reach_rules.specs.Owners.{Owner, IsOwner}
use Rattle.reach_rules.specs.PoolOwners.{IsPoolOwner}
use Rattle.reach_rules.specs.Faults.{Present}
use Rattle.reach_rules.specs.Accounted.{AreNamed, AreInOrder, IsPlain, IsShaped}
use Rattle.apfs_model.specs.Apart.{Apart}
use Rattle.reach_rules.specs.Tally.{IsObjectCount}

-- an owner of one block or more
pub record HasBlocks (IsOne : Owner → Type 0) (a : Owner) : Type 0 where
  pub one : IsOne a
  pub some : (a.blocks == 0) ≡ false

-- the range of an owner
abbrev pub range_of : Owner → ℕ × ℕ
range_of a = (a.first, a.blocks)

-- ranges are those of some owners: each owner of one block or more has one, and there is no further one
pub record AreRangesOf (IsOne : Owner → Type 0) (ranges : List (ℕ × ℕ)) : Type 0 where
  pub owners : List Owner
  pub lists : Lists owners (HasBlocks IsOne)
  pub apart : Apart owners
  pub same : ranges ≡ map range_of owners

-- what is known once all is reached
pub record Whole : Type 0 where
  pub objects : ℕ
  pub owners : List (ℕ × ℕ)
  pub pool_owners : List (ℕ × ℕ)
  pub space : Known
  pub pool : List ℕ

-- ranges lie in the pool of a manager
abbrev pub AreInPool : List ℕ → List (ℕ × ℕ) → Type 0
AreInPool manager ranges = (range : ℕ × ℕ) → In range ranges → is_within range.0 range.1 (pool_base_of manager) (pool_blocks_of manager) ≡ true

-- all is reached: names, trees and shapes are right, no feature is there, and this is the number of named objects, the ranges
-- of the owners of the container and of the pool, which lie in the pool, the space, and the pool's bits
pub record IsReached (image : List ℕ) (seen : Seen) (whole : Whole) : Type 0 where
  pub names : AreNamed image seen
  pub trees : AreInOrder image seen
  pub plain : IsPlain image seen
  pub shaped : IsShaped image seen whole.space.manager
  pub objects : IsObjectCount image seen whole.objects
  pub owners : AreRangesOf (IsOwner image seen) whole.owners
  pub pool_owners : AreRangesOf (IsPoolOwner image seen) whole.pool_owners
  pub placed : AreInPool whole.space.manager whole.pool_owners
  pub space : IsSpaceOf image seen whole.space
  pub pool : ArePoolBits image seen whole.space.manager whole.pool

-- a fault that is named on the way is there: not one of the account of blocks
abbrev pub IsReachedFault : List ℕ → Seen → ReachFault → Type 0
IsReachedFault image seen (Unsound block why) = Present image seen (Unsound block why)
IsReachedFault image seen (Unnamed within oid xid) = Present image seen (Unnamed within oid xid)
IsReachedFault image seen (NamedTwice within oid xid) = Present image seen (NamedTwice within oid xid)
IsReachedFault image seen (OwnedTwice block) = ⊥
IsReachedFault image seen (Outside block) = ⊥
IsReachedFault image seen (UnusedMapping within oid xid) = Present image seen (UnusedMapping within oid xid)
IsReachedFault image seen (Leaked block) = ⊥
IsReachedFault image seen (Missing block) = ⊥
IsReachedFault image seen (PoolLeaked block) = ⊥
IsReachedFault image seen (PoolMissing block) = ⊥
IsReachedFault image seen (FreeCount chunk) = ⊥
IsReachedFault image seen (Space fault) = Present image seen (Space fault)
IsReachedFault image seen (Pool fault) = Present image seen (Pool fault)
IsReachedFault image seen (Tree root item) = Present image seen (Tree root item)
IsReachedFault image seen (Value root item) = Present image seen (Value root item)
