-- The ranges of the container's owners against its bits and free counts.
use Rattle.std.proofs.Common.{◌≡◌, ℕ, ◌+◌, ◌-◌, ◌*◌, ◌/◌, ◌%◌, ◌^◌, ◌<◌, ◌≤◌, Bool, true, false, not, ◌==◌, List, length, min, inl, ap, ap₂, sym, ◌∙◌, subst, arith}
use Rattle.std.specs.Prelude.{filter, count_by}
use Rattle.std.specs.List.{range_with_len}
use Rattle.std.proofs.Math.Nat.{mod-lt, div-add-mod, mul_comm, mul-le-mul_right}
use Rattle.std.proofs.lemmas.Nat.{div-mul-add, mod-mul-add}
use Rattle.std.specs.List.Sorted.{IsPermutation}
use Rattle.std.proofs.lemmas.List.Sorted.{IsPermutation-sym}
use Rattle.std.proofs.lemmas.List.Sums.{length-filter}
use Rattle.std.proofs.lemmas.List.FromFn.{length-map-range_with_len}
use Rattle.std.proofs.lemmas.Bool.{ne_eqb}
use Rattle.std.proofs.lemmas.Bool.Decides.{nat_tests}
use Rattle.apfs_model.specs.Blocks.{is_inside, is_within}
use Rattle.apfs_model.specs.Lists.{In}
use Rattle.apfs_model.proofs.BoolTests.{from-equal, equal-from, right-true, in-range, from-range}
use Rattle.apfs_model.proofs.Searches.{in-filter, from-filter, filter-test}
use Rattle.apfs_model.proofs.Finite.{apart-range, apart-filter}
use Rattle.obj_base.specs.Stops.{Tells, NoFeature, IsFree}
use Rattle.obj_base.specs.declared.stop.Stop.{Stop}
use Rattle.obj_base.proofs.StopLemmas.{tells_more}
use Rattle.nx_ring.specs.Checkpoint.{Seen, site_of}
use Rattle.space_map.specs.Fields.{chunks_of}
use Rattle.space_map.specs.Geometry.{chunk_len, is_shaped}
use Rattle.space_map.specs.Chunks.{chunk_at, chunks_in}
use Rattle.space_map.specs.Marks.{is_marked, is_marked_in, free_in}
use Rattle.space_map.specs.Tests.{is_chunk, is_free_count}
use Rattle.space_map.specs.Stops.{Known, known_of}
use Rattle.space_map.proofs.Places.{shape-from, block-chunk}
use Rattle.own_ledger.specs.declared.held.ClaimFault.{ClaimFault}
use Rattle.own_ledger.specs.declared.held.ClaimFault.TheVariants as claims
use Rattle.own_ledger.proofs.MarkLemmas.{count_bound, in-below}
use Rattle.reach_rules.specs.declared.fault.ReachFault.{ReachFault}
use Rattle.reach_rules.specs.declared.fault.ReachFault.TheVariants.{Unsound, Unnamed, NamedTwice, OwnedTwice, Outside, UnusedMapping, Leaked, Missing, PoolLeaked, PoolMissing, FreeCount, Space, Pool, Tree, Value}
use Rattle.reach_rules.specs.Tally.{IsNumberOf}
use Rattle.reach_rules.specs.Owners.{IsOwner}
use Rattle.reach_rules.specs.Reached.{Whole, IsReached}
use Rattle.reach_rules.specs.Settled.{is_held, mark_of, is_chunk_counted, ArePoolSettled, IsHeldBlock, IsSettledWith, HasBit, IsSettleFault}
use Rattle.own_settle.specs.Claimed.{IsRangeFault}
use Rattle.own_settle.specs.InOrder.{AreInOrder, HaveBlocks, blocks_in}
use Rattle.own_settle.specs.Agreed.{unmarked, HasMarkAt, marks_in, first_of, count_of, free_at, IsChunkAgreed, IsOfChunk}
use Rattle.own_settle.specs.Pooled.{owner_fault}
use Rattle.own_settle.proofs.OrderLemmas.{order-inside, order-count}
use Rattle.own_settle.proofs.MovedLemmas.{in-moved, held-moved, apart-moved, fault-moved}
use Rattle.reach_rules.proofs.Ranges.{range-owner}
use Rattle.reach_rules.proofs.Refutes.{settled-refutes}

-- ---- what is known of what was reached

pub known-is : (image : List ℕ) (seen : Seen) (whole : Whole) → IsReached image seen whole → whole.space ≡ known_of image whole.space.site whole.space.manager
unfolding known_of
known-is image seen whole r =
    let site : whole.space.site ≡ site_of seen = ap (λ (k : Known). k.site) r.space.same in
    r.space.same ∙ ap (λ s. known_of image s whole.space.manager) (sym site)

-- the list of chunks has as many as the manager says
pub chunks-counted : (image : List ℕ) (space : Known) → space ≡ known_of image space.site space.manager → length space.chunks ≡ chunks_of space.manager
unfolding known_of chunks_in
chunks-counted image space known =
    ap (λ (k : Known). length k.chunks) known ∙ length-map-range_with_len (chunk_at space.site.block_size image space.manager) 0 (chunks_of space.manager)

-- a chunk has the blocks that its place says
chunk-blocks : (image : List ℕ) (seen : Seen) (whole : Whole) → IsReached image seen whole → (k : ℕ) → k < chunks_of whole.space.manager → (chunk_at whole.space.site.block_size image whole.space.manager k).blocks ≡ count_of whole.space k
unfolding is_chunk known_of
chunk-blocks image seen whole r k low =
    let site : site_of seen ≡ whole.space.site = sym (ap (λ (s : Known). s.site) r.space.same) in
    let right = subst (λ s. is_chunk s k (chunk_at s.block_size image whole.space.manager k) ≡ true) site (r.space.right.chunks k low) in
    let chunk = chunk_at whole.space.site.block_size image whole.space.manager k in
    equal-from chunk.blocks (count_of whole.space k) (right-true (chunk.first == k * chunk_len whole.space.site.block_size) _ right)

-- a block stands in a chunk that is there
chunk-of : (image : List ℕ) (seen : Seen) (whole : Whole) → IsReached image seen whole → (block : ℕ) → 1 ≤ whole.space.site.block_size → block < whole.space.site.blocks → block / chunk_len whole.space.site.block_size < chunks_of whole.space.manager
unfolding known_of
chunk-of image seen whole r block some low =
    let site : site_of seen ≡ whole.space.site = sym (ap (λ (s : Known). s.site) r.space.same) in
    let shape = shape-from whole.space.site whole.space.manager (subst (λ s. is_shaped s whole.space.manager ≡ true) site r.shaped.space.shaped) in
    block-chunk whole.space.site whole.space.manager shape block some low

-- ---- numbers

positive-from : (n m : ℕ) → n ≡ m → (m == 0) ≡ false → 0 < n
positive-from n m same some = grind (arith, nat_tests)

outside-from : (first len blocks : ℕ) → is_within first len 0 blocks ≡ false → is_inside first len blocks ≡ false
outside-from first len blocks out = grind (arith, nat_tests)

inside-from : (first len blocks : ℕ) → blocks ≤ 2 ^ 63 → 0 < len → first + len ≤ blocks → is_inside first len blocks ≡ true
inside-from first len blocks few some inside = grind (arith, nat_tests)

-- the blocks of a site are fewer than 2^63
pub few-blocks : (size blocks bytes : ℕ) → 4096 ≤ size → size * blocks ≤ bytes → bytes < 2 ^ 64 → blocks ≤ 2 ^ 63
few-blocks size blocks bytes least inside below =
    let more : 4096 * blocks ≤ size * blocks = mul-le-mul_right blocks least in
    omega arith

-- ---- places

-- a number is its place in its unit, after the units before
place-of : (block len blocks : ℕ) → 0 < len → block < blocks → (block % len < min len (blocks - len * (block / len))) × ((block / len) * len + block % len ≡ block)
place-of block len blocks pos low =
    let below = mod-lt block pos in
    let all = div-add-mod block len in
    let other = mul_comm (block / len) len in
    (omega (arith, below, all), omega (arith, other, all))

-- a block is at its place in its chunk
block-again : (space : Known) (block : ℕ) → 1 ≤ space.site.block_size → block < space.site.blocks →
    (block % chunk_len space.site.block_size < count_of space (block / chunk_len space.site.block_size))
    × (first_of space (block / chunk_len space.site.block_size) + block % chunk_len space.site.block_size ≡ block)
block-again space block some low = place-of block (chunk_len space.site.block_size) space.site.blocks (omega arith) low

-- a block at a place of a chunk is one of the container
place-low : (space : Known) (k place : ℕ) → place < count_of space k → first_of space k + place < space.site.blocks
place-low space k place low =
    let len = chunk_len space.site.block_size in
    let other = mul_comm k len in
    omega (arith, other, low)

-- its mark is the one at that place
mark-at : (image : List ℕ) (whole : Whole) (k place : ℕ) → place < count_of whole.space k → mark_of image whole (first_of whole.space k + place) ≡ marks_in image whole.space k place
unfolding is_marked
mark-at image whole k place low =
    let len = chunk_len whole.space.site.block_size in
    let short : place < len = omega (arith, low) in
    ap₂ (λ a b. is_marked_in whole.space.site.block_size image (chunk_at whole.space.site.block_size image whole.space.manager a) b) (div-mul-add k len place short) (mod-mul-add k len place short)

-- ---- free counts

free-is : (image : List ℕ) (seen : Seen) (whole : Whole) → IsReached image seen whole → (k : ℕ) → k < chunks_of whole.space.manager →
    free_in whole.space.site.block_size image (chunk_at whole.space.site.block_size image whole.space.manager k) ≡ unmarked (marks_in image whole.space k) (count_of whole.space k)
unfolding free_in unmarked
free-is image seen whole r k low =
    ap (λ n. length (filter (λ i. not (marks_in image whole.space k i)) (range_with_len 0 n))) (chunk-blocks image seen whole r k low)

right-count : (image : List ℕ) (seen : Seen) (whole : Whole) → IsReached image seen whole → (k : ℕ) → k < chunks_of whole.space.manager →
    free_at image whole.space k ≡ unmarked (marks_in image whole.space k) (count_of whole.space k) → is_chunk_counted image whole k ≡ true
unfolding is_free_count
right-count image seen whole r k low same = from-equal (free_at image whole.space k) _ (same ∙ sym (free-is image seen whole r k low))

wrong-free : (image : List ℕ) (seen : Seen) (whole : Whole) → IsReached image seen whole → (k : ℕ) → k < chunks_of whole.space.manager →
    (free_at image whole.space k ≡ unmarked (marks_in image whole.space k) (count_of whole.space k) → ⊥) → is_chunk_counted image whole k ≡ false
unfolding is_free_count
wrong-free image seen whole r k low differs = ne_eqb (free_at image whole.space k) _ (λ e. differs (e ∙ free-is image seen whole r k low))

-- ---- what is named

-- each range of the owners has a block
pub have-blocks : (image : List ℕ) (seen : Seen) (whole : Whole) → IsReached image seen whole → HaveBlocks whole.owners
have-blocks image seen whole r range one =
    let owner = range-owner (IsOwner image seen) whole.owners r.owners range one in
    positive-from range.1 owner.0.blocks (ap (λ (x : ℕ × ℕ). x.1) owner.1.1) owner.1.0.some

-- a range of the container's that leaves it, or a block in two of them
owners-refused : (image : List ℕ) (whole : Whole) (fault : ClaimFault) → IsRangeFault 0 whole.space.site.blocks whole.owners fault → IsSettleFault image whole (owner_fault fault)
owners-refused image whole (claims.Outside block) leaving = record {
  range = leaving.range;
  one = leaving.one;
  leaves = outside-from leaving.range.0 leaving.range.1 whole.space.site.blocks leaving.leaves;
  at = leaving.at;
}
owners-refused image whole (claims.Twice block) twice =
    let below = in-below block 0 whole.space.site.blocks twice.low in
    inl (omega arith, twice.twice)

-- the same, said of the ranges by their first blocks
pub order-refused : (image : List ℕ) (seen : Seen) (whole : Whole) (ranges sorted : List (ℕ × ℕ)) (blocks : ℕ) (fault : ClaimFault) → IsReached image seen whole → ranges ≡ whole.owners → IsPermutation ranges sorted →
    blocks ≡ whole.space.site.blocks → (HaveBlocks sorted → IsRangeFault 0 blocks sorted fault) → IsSettleFault image whole (owner_fault fault)
order-refused image seen whole ranges sorted blocks fault r are moved same h =
    let moves = subst (λ xs. IsPermutation xs sorted) are moved in
    let have : HaveBlocks sorted = λ range one. have-blocks image seen whole r range (in-moved sorted whole.owners (IsPermutation-sym whole.owners sorted moves) range one) in
    owners-refused image whole fault (fault-moved 0 whole.space.site.blocks whole.owners sorted fault moves (subst (λ n. IsRangeFault 0 n sorted fault) same (h have)))

bit-from : (image : List ℕ) (whole : Whole) (held : ℕ → Bool) (k block : ℕ) (mark is : Bool) → ((block : ℕ) → held block ≡ is_held whole.owners block) →
    HasMarkAt (marks_in image whole.space k) held (first_of whole.space k) (count_of whole.space k) block mark is → HasBit image whole block mark is
bit-from image whole held k block mark is alike h = record {
  low = subst (λ b. b < whole.space.site.blocks) (sym h.at) (place-low whole.space k h.place h.low);
  mark_is = ap (mark_of image whole) h.at ∙ mark-at image whole k h.place h.low ∙ h.mark_is;
  held_is = ap (is_held whole.owners) h.at ∙ sym (alike (first_of whole.space k + h.place)) ∙ h.held_is;
}

-- what is named of a chunk
chunk-side : (image : List ℕ) (seen : Seen) (whole : Whole) (held : ℕ → Bool) (fault : ReachFault) → IsReached image seen whole → ((block : ℕ) → held block ≡ is_held whole.owners block) →
    IsOfChunk image whole.space held fault → IsSettleFault image whole fault
chunk-side image seen whole held (Unsound block why) r alike w = absurd w.present
chunk-side image seen whole held (Unnamed within oid xid) r alike w = absurd w.present
chunk-side image seen whole held (NamedTwice within oid xid) r alike w = absurd w.present
chunk-side image seen whole held (OwnedTwice block) r alike w = absurd w.present
chunk-side image seen whole held (Outside block) r alike w = absurd w.present
chunk-side image seen whole held (UnusedMapping within oid xid) r alike w = absurd w.present
chunk-side image seen whole held (Leaked block) r alike w = bit-from image whole held w.chunk block true false alike w.present
chunk-side image seen whole held (Missing block) r alike w = bit-from image whole held w.chunk block false true alike w.present
chunk-side image seen whole held (PoolLeaked block) r alike w = absurd w.present
chunk-side image seen whole held (PoolMissing block) r alike w = absurd w.present
chunk-side image seen whole held (FreeCount chunk) r alike w =
    let low : w.chunk < chunks_of whole.space.manager = subst (λ n. w.chunk < n) (chunks-counted image whole.space (known-is image seen whole r)) w.low in
    subst (λ k. (k < chunks_of whole.space.manager) × (is_chunk_counted image whole k ≡ false)) (sym w.present.same) (low, wrong-free image seen whole r w.chunk low w.present.wrong)
chunk-side image seen whole held (Space fault) r alike w = absurd w.present
chunk-side image seen whole held (Pool fault) r alike w = absurd w.present
chunk-side image seen whole held (Tree root item) r alike w = absurd w.present
chunk-side image seen whole held (Value root item) r alike w = absurd w.present

-- what stops the comparison of the chunks, said of all that was reached
pub chunks-side : (image : List ℕ) (seen : Seen) (whole : Whole) (ranges sorted : List (ℕ × ℕ)) (space : Known) (stop : Stop ReachFault) → IsReached image seen whole → ranges ≡ whole.owners → IsPermutation ranges sorted → space ≡ whole.space →
    Tells (IsOfChunk image space (is_held sorted)) NoFeature stop → Tells (IsSettleFault image whole) NoFeature stop
chunks-side image seen whole ranges sorted space stop r are moved space_is tells =
    let moves = subst (λ xs. IsPermutation xs sorted) are moved in
    tells_more (IsOfChunk image whole.space (is_held sorted)) (IsSettleFault image whole) NoFeature NoFeature stop
    (λ fault h. chunk-side image seen whole (is_held sorted) fault r (λ block. sym (held-moved whole.owners sorted moves block)) h) (λ feature block h. h)
    (subst (λ s. Tells (IsOfChunk image s (is_held sorted)) NoFeature stop) space_is tells)

-- where all settles nothing is named
pub exact-from : (image : List ℕ) (whole : Whole) (number : ℕ) (stop : Stop ReachFault) → IsSettledWith image whole number → Tells (IsSettleFault image whole) NoFeature stop → IsFree stop
exact-from image whole number stop settled = tells_more (IsSettleFault image whole) (λ fault. ⊥) NoFeature NoFeature stop (λ fault h. settled-refutes image whole number fault h settled) (λ feature block h. h)

-- ---- what Ok says

inside-range : (image : List ℕ) (seen : Seen) (whole : Whole) (sorted : List (ℕ × ℕ)) → IsReached image seen whole → whole.space.site.blocks ≤ 2 ^ 63 → IsPermutation whole.owners sorted → AreInOrder 0 whole.space.site.blocks sorted →
    (range : ℕ × ℕ) → In range whole.owners → is_inside range.0 range.1 whole.space.site.blocks ≡ true
inside-range image seen whole sorted r few moved order range one =
    let positive = have-blocks image seen whole r range one in
    let ends = order-inside 0 whole.space.site.blocks sorted range order (in-moved whole.owners sorted moved range one) in
    inside-from range.0 range.1 whole.space.site.blocks few positive ends

-- the blocks that are held are as many as those of ranges in order
number-is : (whole : Whole) (sorted : List (ℕ × ℕ)) → whole.space.site.blocks ≤ 2 ^ 63 → IsPermutation whole.owners sorted → AreInOrder 0 whole.space.site.blocks sorted → IsNumberOf (IsHeldBlock whole) (blocks_in sorted)
number-is whole sorted few moved order =
    let blocks = whole.space.site.blocks in
    let alike = held-moved whole.owners sorted moved in
    let all = filter (is_held sorted) (range_with_len 0 blocks) in
    let long : length all ≡ count_by (is_held sorted) (range_with_len 0 blocks) = length-filter (is_held sorted) (range_with_len 0 blocks) in
    let count : count_by (is_held sorted) (range_with_len 0 blocks) ≡ blocks_in sorted = order-count 0 blocks sorted order in
    let bound : count_by (is_held sorted) (range_with_len 0 blocks) ≤ blocks = count_bound (is_held sorted) 0 blocks in
    let short : length all ≤ blocks = omega (arith, long, bound) in
    let same : blocks_in sorted ≡ length all = sym count ∙ sym long in
    record {
      all = all;
      lists = (
        (λ block h. record {
          low = let low = from-range 0 blocks block (from-filter (is_held sorted) block (range_with_len 0 blocks) h) in omega arith;
          held = alike block ∙ filter-test (is_held sorted) block (range_with_len 0 blocks) h;
        }),
        (λ block held. in-filter (is_held sorted) block (range_with_len 0 blocks) (let low = held.low in in-range 0 blocks block (omega arith) (omega arith)) (sym (alike block) ∙ held.held)),
      );
      apart = apart-filter (is_held sorted) (range_with_len 0 blocks) (apart-range 0 blocks);
      same = same ∙ omega (arith, short);
    }

-- where the ranges lie in order, the chunks agree and the pool settles, all does
pub settled-all : (image : List ℕ) (seen : Seen) (whole : Whole) (sorted : List (ℕ × ℕ)) → IsReached image seen whole → 1 ≤ whole.space.site.block_size → whole.space.site.blocks ≤ 2 ^ 63 →
    IsPermutation whole.owners sorted → AreInOrder 0 whole.space.site.blocks sorted → ArePoolSettled whole → ((k : ℕ) → k < length whole.space.chunks → IsChunkAgreed image whole.space (is_held sorted) k) → IsSettledWith image whole (blocks_in sorted)
settled-all image seen whole sorted r some few moved order pool chunks =
    let counted = chunks-counted image whole.space (known-is image seen whole r) in
    record {
      container = record {
        inside = inside-range image seen whole sorted r few moved order;
        apart = apart-moved whole.space.site.blocks whole.owners sorted moved order;
        marked = λ block low.
            let len = chunk_len whole.space.site.block_size in
            let k = block / len in
            let again = block-again whole.space block some low in
            let there : k < length whole.space.chunks = subst (λ n. k < n) (sym counted) (chunk-of image seen whole r block some low) in
            ap (mark_of image whole) (sym again.1) ∙ mark-at image whole k (block % len) again.0 ∙ (chunks k there).marks (block % len) again.0
            ∙ ap (is_held sorted) again.1 ∙ sym (held-moved whole.owners sorted moved block);
        counts = λ k low. right-count image seen whole r k low (chunks k (subst (λ n. k < n) (sym counted) low)).count;
      };
      pool = pool;
      blocks = number-is whole sorted few moved order;
    }
