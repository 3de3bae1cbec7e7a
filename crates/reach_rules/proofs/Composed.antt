-- What is reached and settled is accounted; and what is named where it doesn't settle is present.
use Rattle.std.proofs.Common.{◌≡◌, ◌↔◌, ℕ, ◌-◌, ◌/◌, ◌<◌, Bool, true, false, List, Option, Some, inl, inr, ap, sym, ◌∙◌, subst}
use Rattle.apfs_model.specs.Bytes.{bit_at}
use Rattle.apfs_model.specs.Blocks.{is_inside}
use Rattle.obj_base.specs.declared.site.Site.{Site}
use Rattle.nx_ring.specs.Checkpoint.{Seen, site_of}
use Rattle.space_map.specs.Fields.{chunks_of, pool_base_of}
use Rattle.space_map.specs.Geometry.{chunk_len, is_shaped}
use Rattle.space_map.specs.Chunks.{chunk_at}
use Rattle.space_map.specs.Marks.{is_marked}
use Rattle.space_map.specs.Tests.{is_free_count}
use Rattle.space_map.specs.Stops.{Known, known_of}
use Rattle.space_pool.specs.Bits.{is_pool_marked}
use Rattle.reach_rules.specs.declared.fault.ReachFault.{ReachFault}
use Rattle.reach_rules.specs.declared.fault.ReachFault.TheVariants.{Unsound, Unnamed, NamedTwice, OwnedTwice, Outside, UnusedMapping, Leaked, Missing, PoolLeaked, PoolMissing, FreeCount, Space, Pool, Tree, Value}
use Rattle.reach_rules.specs.Owners.{covers, IsOwner, IsFree}
use Rattle.reach_rules.specs.PoolOwners.{IsPoolOwner, IsPoolFree}
use Rattle.reach_rules.specs.Faults.{Present, is_of_pool, HasBits, HasMark, HasPoolMark}
use Rattle.reach_rules.specs.Accounted.{IsAccounted, IsShaped, IsSettled, IsPoolSettled}
use Rattle.reach_rules.specs.Tally.{IsTally}
use Rattle.reach_rules.specs.Reached.{Whole, IsReached}
use Rattle.reach_rules.specs.Settled.{is_held, mark_of, pool_mark_of, is_chunk_counted, IsSettledWith, IsSettleFault}
use Rattle.apfs_model.proofs.BoolTests.{test_or, clash}
use Rattle.space_map.proofs.Places.{shape-from, block-chunk}
use Rattle.reach_rules.proofs.Sounds.{manager_naming, manager-live, manager-there}
use Rattle.reach_rules.proofs.SpaceDecided.{Managed}
use Rattle.reach_rules.proofs.SettledDecided.{bits-there, some-size}
use Rattle.reach_rules.proofs.Ranges.{owner-held, held-owner, owner-range, range-owner, apart-owners, twice-owners}

-- the site of the space is the checkpoint's
site-is : (image : List ℕ) (seen : Seen) (whole : Whole) → IsReached image seen whole → whole.space.site ≡ site_of seen
unfolding known_of
site-is image seen whole r = ap (λ (k : Known). k.site) r.space.same

marks-are : (image : List ℕ) (seen : Seen) (whole : Whole) → IsReached image seen whole → (block : ℕ) → mark_of image whole block ≡ is_marked (site_of seen).block_size image whole.space.manager block
marks-are image seen whole r block = ap (λ (s : Site). is_marked s.block_size image whole.space.manager block) (site-is image seen whole r)

counts-are : (image : List ℕ) (seen : Seen) (whole : Whole) → IsReached image seen whole → (k : ℕ) → is_chunk_counted image whole k ≡ is_free_count (site_of seen).block_size image (chunk_at (site_of seen).block_size image whole.space.manager k)
counts-are image seen whole r k = ap (λ (s : Site). is_free_count s.block_size image (chunk_at s.block_size image whole.space.manager k)) (site-is image seen whole r)

pool-marks-are : (image : List ℕ) (seen : Seen) (whole : Whole) → IsReached image seen whole → (block : ℕ) → pool_mark_of whole block ≡ is_pool_marked (site_of seen).block_size image whole.space.manager block
unfolding is_pool_marked
pool-marks-are image seen whole r block = ap (λ bits. bit_at bits (block - pool_base_of whole.space.manager)) r.pool.same

blocks-are : (image : List ℕ) (seen : Seen) (whole : Whole) → IsReached image seen whole → whole.space.site.blocks ≡ (site_of seen).blocks
blocks-are image seen whole r = ap (λ (s : Site). s.blocks) (site-is image seen whole r)

-- a mark that is that of a range is that of an owner
marked-owned : {P : Type 0} (mark held : Bool) → mark ≡ held → (held ≡ true → P) → (P → held ≡ true) → (mark ≡ true) ↔ P
marked-owned mark held e f g = ((λ m. f (sym e ∙ m)), (λ p. e ∙ g p))

settled-from : (image : List ℕ) (seen : Seen) (whole : Whole) (number : ℕ) → IsReached image seen whole → IsSettledWith image whole number → IsSettled image seen whole.space.manager
settled-from image seen whole number r s = record {
  inside = λ a one some. subst (λ n. is_inside a.first a.blocks n ≡ true) (blocks-are image seen whole r) (s.container.inside (a.first, a.blocks) (owner-range (IsOwner image seen) whole.owners r.owners a one some));
  apart = λ block a b low x y c d. apart-owners (IsOwner image seen) whole.owners r.owners s.container.apart a b block x y c d;
  marked = λ block low. marked-owned (is_marked (site_of seen).block_size image whole.space.manager block) (is_held whole.owners block)
      (sym (marks-are image seen whole r block) ∙ s.container.marked block (subst (λ n. block < n) (sym (blocks-are image seen whole r)) low))
      (λ h. let t = held-owner (IsOwner image seen) whole.owners r.owners block h in record { who = t.who; owner = t.one; covers = t.covers })
      (λ o. owner-held (IsOwner image seen) whole.owners r.owners o.who block o.owner o.covers);
  counts = λ k low. sym (counts-are image seen whole r k) ∙ s.container.counts k low;
}

pool-settled-from : (image : List ℕ) (seen : Seen) (whole : Whole) (number : ℕ) → IsReached image seen whole → IsSettledWith image whole number → IsPoolSettled image seen whole.space.manager
pool-settled-from image seen whole number r s = record {
  apart = λ block a b within x y c d. apart-owners (IsPoolOwner image seen) whole.pool_owners r.pool_owners s.pool.apart a b block x y c d;
  marked = λ block within. marked-owned (is_pool_marked (site_of seen).block_size image whole.space.manager block) (is_held whole.pool_owners block)
      (sym (pool-marks-are image seen whole r block) ∙ s.pool.marked block within)
      (λ h. let t = held-owner (IsPoolOwner image seen) whole.pool_owners r.pool_owners block h in record { who = t.who; owner = t.one; covers = t.covers })
      (λ o. owner-held (IsPoolOwner image seen) whole.pool_owners r.pool_owners o.who block o.owner o.covers);
}

-- what is reached and settled is accounted
pub composed : (image : List ℕ) (seen : Seen) (whole : Whole) (number : ℕ) → IsReached image seen whole → IsSettledWith image whole number → IsAccounted image seen
composed image seen whole number r s = record {
  names = r.names;
  trees = r.trees;
  plain = r.plain;
  manager = whole.space.manager;
  block = r.space.block;
  managed = r.space.manager;
  shaped = r.shaped;
  settled = settled-from image seen whole number r s;
  pool = pool-settled-from image seen whole number r s;
}

-- and the two numbers are those of the tally
pub tallied : (image : List ℕ) (seen : Seen) (whole : Whole) (number : ℕ) → IsReached image seen whole → IsSettledWith image whole number → IsTally image seen whole.objects number
tallied image seen whole number r s =
    let same = blocks-are image seen whole r in
    let n = s.blocks in
    record {
      named = r.objects;
      held = record {
        all = n.all;
        lists = (
          (λ block h.
              let b = n.lists.0 block h in
              let t = held-owner (IsOwner image seen) whole.owners r.owners block b.held in
              record { low = subst (λ k. block < k) same b.low; owned = record { who = t.who; owner = t.one; covers = t.covers } }),
          (λ block o. n.lists.1 block (record { low = subst (λ k. block < k) (sym same) o.low; held = owner-held (IsOwner image seen) whole.owners r.owners o.owned.who block o.owned.owner o.owned.covers })),
        );
        apart = n.apart;
        same = n.same;
      };
    }

-- the manager of what is reached
managed : (image : List ℕ) (seen : Seen) (whole : Whole) → IsReached image seen whole → (d : Managed image seen) × (d.object.bytes ≡ whole.space.manager)
managed image seen whole r =
    let t = r.names.named (manager_naming seen) (manager-live image seen) in
    let there = manager-there image seen t.0 t.1 in
    let e : ◌≡◌ {A = Option (List ℕ)} (Some t.0.bytes) (Some whole.space.manager) = sym there.some ∙ r.space.manager.some in
    let same : t.0.bytes ≡ whole.space.manager = cc in
    let shaped = subst (λ m. is_shaped (site_of seen) m ≡ true) (sym same) r.shaped.space.shaped in
    (record { object = t.0; names = t.1; there = there; shaped = shaped; shape = shape-from (site_of seen) t.0.bytes shaped }, same)

bits-of : (image : List ℕ) (seen : Seen) (whole : Whole) → IsReached image seen whole → (k : ℕ) → k < chunks_of whole.space.manager → HasBits image seen whole.space.manager k
bits-of image seen whole r k low =
    let d = managed image seen whole r in
    subst (λ m. HasBits image seen m k) d.1
    (bits-there image seen r.names.named d.0 (subst (λ m. IsShaped image seen m) (sym d.1) r.shaped) k (subst (λ m. k < chunks_of m) (sym d.1) low))

mark-there : (image : List ℕ) (seen : Seen) (whole : Whole) → IsReached image seen whole → (block : ℕ) (mark : Bool) → block < whole.space.site.blocks → mark_of image whole block ≡ mark → HasMark image seen block mark
mark-there image seen whole r block mark low e =
    let shape = shape-from (site_of seen) whole.space.manager r.shaped.space.shaped in
    let low' = subst (λ n. block < n) (blocks-are image seen whole r) low in
    record { low = low'; by = (whole.space.manager, r.space.block, r.space.manager, (bits-of image seen whole r (block / chunk_len (site_of seen).block_size) (block-chunk (site_of seen) whole.space.manager shape block (some-size (site_of seen) whole.space.manager shape) low'), sym (marks-are image seen whole r block) ∙ e)) }

pool-mark-there : (image : List ℕ) (seen : Seen) (whole : Whole) → IsReached image seen whole → (block : ℕ) (mark : Bool) → is_of_pool whole.space.manager block ≡ true → pool_mark_of whole block ≡ mark → HasPoolMark image seen block mark
pool-mark-there image seen whole r block mark within e = (whole.space.manager, r.space.block, r.space.manager, (within, r.shaped.pool, sym (pool-marks-are image seen whole r block) ∙ e))

free-from : (image : List ℕ) (seen : Seen) (whole : Whole) → IsReached image seen whole → (block : ℕ) → is_held whole.owners block ≡ false → IsFree image seen block
free-from image seen whole r block e a one = elim (test_or (covers a block)) as (λ _. covers a block ≡ false) [ inr f ↦ f | inl c ↦ clash (is_held whole.owners block) (owner-held (IsOwner image seen) whole.owners r.owners a block one c) e ]

pool-free-from : (image : List ℕ) (seen : Seen) (whole : Whole) → IsReached image seen whole → (block : ℕ) → is_held whole.pool_owners block ≡ false → IsPoolFree image seen block
pool-free-from image seen whole r block e a one = elim (test_or (covers a block)) as (λ _. covers a block ≡ false) [ inr f ↦ f | inl c ↦ clash (is_held whole.pool_owners block) (owner-held (IsPoolOwner image seen) whole.pool_owners r.pool_owners a block one c) e ]

-- what is named where the ranges and the bits don't settle is present
pub settle-present : (image : List ℕ) (seen : Seen) (whole : Whole) → IsReached image seen whole → (fault : ReachFault) → IsSettleFault image whole fault → Present image seen fault
settle-present image seen whole r (Unsound block why) p = absurd p
settle-present image seen whole r (Unnamed within oid xid) p = absurd p
settle-present image seen whole r (NamedTwice within oid xid) p = absurd p
settle-present image seen whole r (OwnedTwice block) (inl (low, t)) =
    let o = twice-owners (IsOwner image seen) whole.owners r.owners block t in
    inl (record { low = subst (λ n. block < n) (blocks-are image seen whole r) low; one = o.one; other = o.other; one_owner = o.one_is; other_owner = o.other_is; one_covers = o.one_covers; other_covers = o.other_covers; apart = o.differ })
settle-present image seen whole r (OwnedTwice block) (inr (within, t)) =
    let o = twice-owners (IsPoolOwner image seen) whole.pool_owners r.pool_owners block t in
    inr (record { inside = (whole.space.manager, r.space.block, r.space.manager, within); one = o.one; other = o.other; one_owner = o.one_is; other_owner = o.other_is; one_covers = o.one_covers; other_covers = o.other_covers; apart = o.differ })
settle-present image seen whole r (Outside block) p =
    let t = range-owner (IsOwner image seen) whole.owners r.owners p.range p.one in
    let e : p.range ≡ (t.0.first, t.0.blocks) = t.1.1 in
    record {
      who = t.0;
      owner = t.1.0.one;
      some = t.1.0.some;
      leaves = subst (λ n. is_inside t.0.first t.0.blocks n ≡ false) (blocks-are image seen whole r) (subst (λ (x : ℕ × ℕ). is_inside x.0 x.1 whole.space.site.blocks ≡ false) e p.leaves);
      at = p.at ∙ ap (λ (x : ℕ × ℕ). x.0) e;
    }
settle-present image seen whole r (UnusedMapping within oid xid) p = absurd p
settle-present image seen whole r (Leaked block) p = (mark-there image seen whole r block true p.low p.mark_is, free-from image seen whole r block p.held_is)
settle-present image seen whole r (Missing block) p =
    let t = held-owner (IsOwner image seen) whole.owners r.owners block p.held_is in
    (mark-there image seen whole r block false p.low p.mark_is, record { who = t.who; owner = t.one; covers = t.covers })
settle-present image seen whole r (PoolLeaked block) p = (pool-mark-there image seen whole r block true p.inside p.mark_is, pool-free-from image seen whole r block p.held_is)
settle-present image seen whole r (PoolMissing block) p =
    let t = held-owner (IsPoolOwner image seen) whole.pool_owners r.pool_owners block p.held_is in
    (pool-mark-there image seen whole r block false p.inside p.mark_is, record { who = t.who; owner = t.one; covers = t.covers })
settle-present image seen whole r (FreeCount chunk) (low, wrong) = (whole.space.manager, r.space.block, r.space.manager, (bits-of image seen whole r chunk low, sym (counts-are image seen whole r chunk) ∙ wrong))
settle-present image seen whole r (Space fault) p = absurd p
settle-present image seen whole r (Pool fault) p = absurd p
settle-present image seen whole r (Tree root item) p = absurd p
settle-present image seen whole r (Value root item) p = absurd p
