-- The ranges of the pool's owners against its bits.
use Rattle.std.proofs.Common.{◌≡◌, ℕ, ◌+◌, ◌-◌, true, List, ap, sym, ◌∙◌, subst, arith, inr, ◌*◌, ◌^◌, ◌&&◌, nat_lt, length}
use Rattle.apfs_model.specs.Blocks.{is_inside}
use Rattle.apfs_model.proofs.BoolTests.{clash, left-true, right-true, upto-from}
use Rattle.obj_base.specs.declared.site.Site.{Site}
use Rattle.space_map.specs.Fields.{pool_base_of, pool_blocks_of, pool_bitmap_blocks_of}
use Rattle.space_map.specs.Geometry.{chunk_len}
use Rattle.space_pool.specs.Bits.{has_pool_bits, has_indexes, is_pool_count, is_pool_shaped}
use Rattle.space_pool.specs.declared.fault.PoolFault.TheVariants as pools
use Rattle.own_ledger.specs.Held.{HeldBlocks, holds, Agrees}
use Rattle.own_ledger.proofs.MarkLemmas.{in-above, in-below}
use Rattle.reach_rules.specs.declared.fault.ReachFault.{ReachFault}
use Rattle.reach_rules.specs.declared.fault.ReachFault.TheVariants.{Unsound, Unnamed, NamedTwice, OwnedTwice, Outside, UnusedMapping, Leaked, Missing, PoolLeaked, PoolMissing, FreeCount, Space, Pool, Tree, Value}
use Rattle.reach_rules.specs.Reached.{Whole, AreInPool}
use Rattle.reach_rules.specs.Settled.{ArePoolSettled, IsSettleFault}
use Rattle.own_settle.specs.Claimed.{AreClaimed}
use Rattle.own_settle.specs.Kept.{HasPool}
use Rattle.own_settle.specs.Pooled.{IsPoolSideFault}

-- the pool's ranges settle with its bits
pub pool-settled : (whole : Whole) (old new : HeldBlocks) → AreInPool whole.space.manager whole.pool_owners → AreClaimed old new whole.pool_owners →
    Agrees new (pool_base_of whole.space.manager) whole.pool (pool_blocks_of whole.space.manager) → ArePoolSettled whole
pool-settled whole old new placed claimed agrees =
    let base = pool_base_of whole.space.manager in
    let blocks = pool_blocks_of whole.space.manager in
    record {
      inside = placed;
      apart = claimed.apart;
      marked = λ block of.
          let above = in-above block base blocks of in
          let below = in-below block base blocks of in
          let same : base + (block - base) ≡ block = omega arith in
          sym (agrees (block - base) (omega arith)) ∙ ap (holds new) same ∙ claimed.held block;
    }

-- the same, said of what was got of it
pub pool-settled-by : (whole : Whole) (old new : HeldBlocks) (owners : List (ℕ × ℕ)) (range : ℕ × ℕ) (bits : List ℕ) → owners ≡ whole.pool_owners →
    range ≡ (pool_base_of whole.space.manager, pool_blocks_of whole.space.manager) → bits ≡ whole.pool → AreInPool whole.space.manager whole.pool_owners →
    AreClaimed old new owners → Agrees new range.0 bits range.1 → ArePoolSettled whole
pool-settled-by whole old new owners range bits owners_are range_is bits_are placed claimed agrees =
    pool-settled whole old new placed (subst (λ rs. AreClaimed old new rs) owners_are claimed)
    (subst (λ (x : ℕ × ℕ). Agrees new x.0 whole.pool x.1) range_is (subst (λ xs. Agrees new range.0 xs range.1) bits_are agrees))

-- what is named of the pool is named of all, where the ranges lie in the pool
pub pool-side : (image : List ℕ) (whole : Whole) (fault : ReachFault) → AreInPool whole.space.manager whole.pool_owners → IsPoolSideFault whole fault → IsSettleFault image whole fault
pool-side image whole (Unsound block why) placed h = absurd h
pool-side image whole (Unnamed within oid xid) placed h = absurd h
pool-side image whole (NamedTwice within oid xid) placed h = absurd h
pool-side image whole (OwnedTwice block) placed h = inr (h.inside, h.twice)
pool-side image whole (Outside block) placed h = absurd h
pool-side image whole (UnusedMapping within oid xid) placed h = absurd h
pool-side image whole (Leaked block) placed h = absurd h
pool-side image whole (Missing block) placed h = absurd h
pool-side image whole (PoolLeaked block) placed h = h
pool-side image whole (PoolMissing block) placed h = h
pool-side image whole (FreeCount chunk) placed h = absurd h
pool-side image whole (Space fault) placed h = absurd h
pool-side image whole (Pool (pools.Index i)) placed h = absurd h
pool-side image whole (Pool pools.Count) placed h = absurd h
pool-side image whole (Pool (pools.Place block)) placed h = clash _ (placed h.range h.one) h.leaves
pool-side image whole (Pool (pools.Unnamed oid)) placed h = absurd h
pool-side image whole (Pool (pools.Walk root why)) placed h = absurd h
pool-side image whole (Pool (pools.Value root item)) placed h = absurd h
pool-side image whole (Tree root item) placed h = absurd h
pool-side image whole (Value root item) placed h = absurd h

-- a pool whose bitmap can be read, and whose bits are those of all its blocks, has room: what `Reached` asks
pub pool-room : (site : Site) (manager bits : List ℕ) → is_pool_shaped site manager ≡ true → length bits ≡ pool_bitmap_blocks_of manager * site.block_size → HasPool site.blocks manager bits
unfolding is_pool_shaped is_pool_count has_pool_bits
pool-room site manager bits shaped long =
    let blocks = pool_blocks_of manager in
    let count = left-true (is_pool_count site manager) _ shaped in
    let sizes = left-true (has_pool_bits site.block_size manager && has_indexes manager) _ count in
    let places = right-true (has_pool_bits site.block_size manager && has_indexes manager) _ count in
    let pool = left-true (is_inside (pool_base_of manager) blocks site.blocks) _ places in
    let enough = upto-from blocks (pool_bitmap_blocks_of manager * chunk_len site.block_size) (left-true (has_pool_bits site.block_size manager) _ sizes) in
    record {
      inside = upto-from (pool_base_of manager + blocks) site.blocks (right-true (nat_lt (pool_base_of manager) (2 ^ 63)) _ pool);
      enough = omega (arith, enough, long);
    }
