-- What is there where the ranges and the bits of the pool don't settle.
use Rattle.std.specs.Prelude.{◌≡◌, ℕ, true, false, if◌then◌else◌}
use Rattle.apfs_model.specs.Blocks.{is_within}
use Rattle.apfs_model.specs.Lists.{In}
use Rattle.space_map.specs.Fields.{pool_base_of, pool_blocks_of}
use Rattle.space_pool.specs.declared.fault.PoolFault.{PoolFault}
use Rattle.space_pool.specs.declared.fault.PoolFault.TheVariants as pools
use Rattle.own_ledger.specs.declared.held.ClaimFault.{ClaimFault}
use Rattle.own_ledger.specs.declared.held.ClaimFault.TheVariants as claims
use Rattle.own_ledger.specs.declared.held.Difference.{Difference}
use Rattle.reach_rules.specs.declared.fault.ReachFault.{ReachFault}
use Rattle.reach_rules.specs.declared.fault.ReachFault.TheVariants.{Unsound, Unnamed, NamedTwice, OwnedTwice, Outside, UnusedMapping, Leaked, Missing, PoolLeaked, PoolMissing, FreeCount, Space, Pool, Tree, Value}
use Rattle.reach_rules.specs.Faults.{is_of_pool}
use Rattle.reach_rules.specs.Reached.{Whole}
use Rattle.reach_rules.specs.Settled.{IsHeldTwice, HasPoolBit}

-- what a refused claim says of the container's ranges
abbrev pub owner_fault : ClaimFault → ReachFault
owner_fault (claims.Outside block) = Outside block
owner_fault (claims.Twice block) = OwnedTwice block

-- what a refused claim says of the pool's ranges
abbrev pub pool_fault : ClaimFault → ReachFault
pool_fault (claims.Outside block) = Pool (pools.Place block)
pool_fault (claims.Twice block) = OwnedTwice block

-- what a difference says of a block of the pool
abbrev pub pool_told_of : Difference → ReachFault
pool_told_of difference = if difference.held then PoolMissing difference.block else PoolLeaked difference.block

-- a block of the pool lies in two of the pool's ranges
pub record IsPoolTwice (whole : Whole) (block : ℕ) : Type 0 where
  pub inside : is_of_pool whole.space.manager block ≡ true
  pub twice : IsHeldTwice whole.pool_owners block

-- a range of the pool's leaves it
pub record HasPoolLeaving (whole : Whole) : Type 0 where
  pub range : ℕ × ℕ
  pub one : In range whole.pool_owners
  pub leaves : is_within range.0 range.1 (pool_base_of whole.space.manager) (pool_blocks_of whole.space.manager) ≡ false

-- what is named of the pool's index, queue or place: a range that leaves it
abbrev pub IsPoolPlace : Whole → PoolFault → Type 0
IsPoolPlace whole (pools.Index i) = ⊥
IsPoolPlace whole pools.Count = ⊥
IsPoolPlace whole (pools.Place block) = HasPoolLeaving whole
IsPoolPlace whole (pools.Unnamed oid) = ⊥
IsPoolPlace whole (pools.Walk root why) = ⊥
IsPoolPlace whole (pools.Value root item) = ⊥

-- what is named where the pool doesn't settle is there
abbrev pub IsPoolSideFault : Whole → ReachFault → Type 0
IsPoolSideFault whole (Unsound block why) = ⊥
IsPoolSideFault whole (Unnamed within oid xid) = ⊥
IsPoolSideFault whole (NamedTwice within oid xid) = ⊥
IsPoolSideFault whole (OwnedTwice block) = IsPoolTwice whole block
IsPoolSideFault whole (Outside block) = ⊥
IsPoolSideFault whole (UnusedMapping within oid xid) = ⊥
IsPoolSideFault whole (Leaked block) = ⊥
IsPoolSideFault whole (Missing block) = ⊥
IsPoolSideFault whole (PoolLeaked block) = HasPoolBit whole block true false
IsPoolSideFault whole (PoolMissing block) = HasPoolBit whole block false true
IsPoolSideFault whole (FreeCount chunk) = ⊥
IsPoolSideFault whole (Space fault) = ⊥
IsPoolSideFault whole (Pool fault) = IsPoolPlace whole fault
IsPoolSideFault whole (Tree root item) = ⊥
IsPoolSideFault whole (Value root item) = ⊥
