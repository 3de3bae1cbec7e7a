use Rattle.std.proofs.Common.{◌+◌, ◌*◌, ◌^◌, ◌≤◌, ◌<◌, ℕ, List, sym, subst, length}
use Rattle.obj_base.specs.declared.site.Site.{Site}
use Rattle.nx_ring.specs.Checkpoint.{site_of}
use Rattle.space_map.specs.Fields.{pool_bitmap_blocks_of, indexes_of, ring_base_of}
use Rattle.space_pool.specs.Bits.{index_at}
use Rattle.space_pool.proofs.Indexes.{count-inside, ring-low, shaped-count, shaped-below, shaped_free}
use Rattle.space_pool.proofs.bits.pool_bits.Goals as goal

pub returns-in-Err-clause-exact : goal.returns-in-Err-clause-exact
returns-in-Err-clause-exact g c shaped = shaped_free c.args.cp.now c.args.space.now.manager c.in-Err.stop shaped c.in-Err.ensures.present

pub read_bits-requires-clause-inside : goal.read_bits-requires-clause-inside
read_bits-requires-clause-inside g c =
    subst (λ (m : List ℕ). indexes_of m + 2 * pool_bitmap_blocks_of m ≤ length m) (sym c.manager.ensures.all)
    (count-inside (site_of c.args.cp.now) c.args.space.now.manager (shaped-count (site_of c.args.cp.now) c.args.space.now.manager c.in-Ok.ensures.clear))

pub read_bits-requires-clause-low : goal.read_bits-requires-clause-low
read_bits-requires-clause-low g c =
    subst (λ (pool : ℕ × ℕ). pool.0 < 2 ^ 63) (sym c.pool_ring-ring_base.ensures)
    (ring-low (site_of c.args.cp.now) c.args.space.now.manager (shaped-count (site_of c.args.cp.now) c.args.space.now.manager c.in-Ok.ensures.clear))

pub read_bits-requires-clause-below : goal.read_bits-requires-clause-below
read_bits-requires-clause-below g c =
    let manager = c.args.space.now.manager in
    subst (λ (m : List ℕ). (i : ℕ) → i < pool_bitmap_blocks_of m → c.pool_ring-ring_base.result.0 + index_at m i < c.site.result.blocks) (sym c.manager.ensures.all)
    (subst (λ (pool : ℕ × ℕ). (i : ℕ) → i < pool_bitmap_blocks_of manager → pool.0 + index_at manager i < c.site.result.blocks) (sym c.pool_ring-ring_base.ensures)
    (subst (λ (s : Site). (i : ℕ) → i < pool_bitmap_blocks_of manager → ring_base_of manager + index_at manager i < s.blocks) (sym c.site.ensures)
    (shaped-below (site_of c.args.cp.now) manager c.in-Ok.ensures.clear)))
