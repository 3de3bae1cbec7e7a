-- How often the source is read for the whole account: to reach all, and then to settle it.
use Rattle.std.proofs.Common.{◌≡◌, ℕ, ◌+◌, ◌≤◌, List, Some, length, ap, sym, ◌∙◌, arith}
use Rattle.apfs_model.proofs.Greatest.{some-value}
use Rattle.nx_ring.specs.Checkpoint.{Seen}
use Rattle.space_map.specs.Fields.{chunks_of, pool_bitmap_blocks_of}
use Rattle.space_map.specs.Blocks.{manager_of}
use Rattle.own_settle.proofs.SettleLemmas.{known-is, chunks-counted}
use Rattle.reach_rules.specs.Bound.{RoseBy, account_reads, ReachedWithin}
use Rattle.reach_rules.specs.Reached.{Whole, IsReached}
use Rattle.reach_rules.specs.Settled.{AreApart}

-- a read for each object and for each block of the pool's bitmap, and then one for each chunk
pub account-within : (image : List ℕ) (seen : Seen) (whole : Whole) (manager : List ℕ) → IsReached image seen whole → manager_of seen ≡ Some manager → AreApart whole.owners
    → (first middle last : ℕ) → ReachedWithin whole first middle → last ≤ middle + length whole.space.chunks → RoseBy (account_reads whole.objects manager) first last
account-within image seen whole manager r some apart first middle last reached settled =
    let same : whole.space.manager ≡ manager = some-value whole.space.manager manager (sym r.space.manager.some ∙ some) in
    let chunks : length whole.space.chunks ≡ chunks_of whole.space.manager = chunks-counted image whole.space (known-is image seen whole r) in
    let here : chunks_of whole.space.manager ≡ chunks_of manager = ap chunks_of same in
    let pool : pool_bitmap_blocks_of whole.space.manager ≡ pool_bitmap_blocks_of manager = ap pool_bitmap_blocks_of same in
    let rose : middle ≤ first + (whole.objects + pool_bitmap_blocks_of whole.space.manager) = reached apart in
    omega arith
