-- What is present in no accounted container.
use Rattle.std.proofs.Common.{◌≡◌, ℕ, ◌<◌, true, ◌&&◌, nat_lt, List, Option, Some, None, is_ok, inl, inr, ap, sym, ◌∙◌, subst, arith}
use Rattle.std.specs.List.{range_with_len}
use Rattle.apfs_model.specs.Lists.{In}
use Rattle.obj_base.specs.declared.stop.Feature.{Feature}
use Rattle.nx_ring.specs.Checkpoint.{Seen, site_of}
use Rattle.space_map.specs.Fields.{cabs_of, cibs_of, chunks_of}
use Rattle.space_map.specs.Geometry.{has_address, has_chunk_place}
use Rattle.space_map.specs.Blocks.{is_cab_named, is_cib_named}
use Rattle.space_map.specs.Chunks.{is_told, chunk_at}
use Rattle.space_map.specs.Marks.{lacks_bitmap}
use Rattle.space_map.specs.Tests.{is_in_pool}
use Rattle.space_map.specs.Stops.{HasManager, OfManager, IsBitmap, MustBeInPool, is_bitmap_placed}
use Rattle.space_map.specs.declared.fault.SpaceFault.{SpaceFault}
use Rattle.space_map.specs.declared.fault.SpaceFault.TheVariants as spaces
use Rattle.space_pool.specs.Bits.{is_pool_shaped, is_pool_count, is_pool_index, has_index}
use Rattle.space_map.specs.Fields.{pool_bitmap_blocks_of}
use Rattle.space_pool.specs.declared.fault.PoolFault.{PoolFault}
use Rattle.space_pool.specs.declared.fault.PoolFault.TheVariants as pools
use Rattle.reach_rules.specs.declared.fault.Why.{Why}
use Rattle.reach_rules.specs.declared.fault.ReachFault.{ReachFault}
use Rattle.reach_rules.specs.declared.fault.ReachFault.TheVariants.{Unsound, Unnamed, NamedTwice, OwnedTwice, Outside, UnusedMapping, Leaked, Missing, PoolLeaked, PoolMissing, FreeCount, Space, Pool, Tree, Value}
use Rattle.reach_rules.specs.Resolved.{Found}
use Rattle.reach_rules.specs.Tested.{Answer, tested}
use Rattle.reach_rules.specs.Features.{Placed, HasFeature, first, of}
use Rattle.reach_rules.specs.Faults.{Present, IsUnsound, is_of_pool, IsMisshapen, IsPoolMisshapen}
use Rattle.reach_rules.specs.Accounted.{AreNamed, AreInOrder, IsPlain, IsShaped, IsAccounted}
use Rattle.reach_rules.specs.Reached.{Whole, IsReached, IsReachedFault}
use Rattle.reach_rules.specs.Settled.{mark_of, pool_mark_of, IsSettledWith, IsSettleFault}
use Rattle.apfs_model.proofs.BoolTests.{clash, left-true, right-true, other-true, below-from, all-in, in-range}

-- all of an accounted container but the account of its blocks
pub record Unsettled (image : List ℕ) (seen : Seen) : Type 0 where
  pub names : AreNamed image seen
  pub trees : AreInOrder image seen
  pub plain : IsPlain image seen
  pub manager : List ℕ
  pub block : ℕ
  pub managed : HasManager seen manager block
  pub shaped : IsShaped image seen manager

-- that of an accounted one
abbrev pub unsettled_of : (image : List ℕ) (seen : Seen) → IsAccounted image seen → Unsettled image seen
unsettled_of image seen w = record { names = w.names; trees = w.trees; plain = w.plain; manager = w.manager; block = w.block; managed = w.managed; shaped = w.shaped }

-- there is one space manager
same-manager : (seen : Seen) (m m' : List ℕ) (b b' : ℕ) → HasManager seen m b → HasManager seen m' b' → m ≡ m'
same-manager seen m m' b b' h h' = let e : ◌≡◌ {A = Option (List ℕ)} (Some m) (Some m') = sym h.some ∙ h'.some in cc

-- a fact of the sound space manager is one of the accounted container's
by-manager : (image : List ℕ) (seen : Seen) (w : Unsettled image seen) (P : List ℕ → Type 0) → OfManager seen P → P w.manager
by-manager image seen w P (m, b, has, p) = subst P (same-manager seen m w.manager b w.block has w.managed) p

cab-below : (manager : List ℕ) (i : ℕ) → is_cab_named manager i ≡ true → i < cabs_of manager
unfolding is_cab_named
cab-below manager i e = below-from i (cabs_of manager) (left-true (nat_lt i (cabs_of manager)) (has_address manager i) e)

told-below : (image : List ℕ) (seen : Seen) (manager : List ℕ) (k : ℕ) → is_told image (site_of seen) manager k ≡ true → k < chunks_of manager
unfolding is_told
told-below image seen manager k e =
    below-from k (chunks_of manager) (left-true (nat_lt k (chunks_of manager)) (has_chunk_place (site_of seen).block_size manager k)
    (left-true (nat_lt k (chunks_of manager) && has_chunk_place (site_of seen).block_size manager k) _ e))

cib-below : (image : List ℕ) (seen : Seen) (manager : List ℕ) (i : ℕ) → is_cib_named image (site_of seen) manager i ≡ true → i < cibs_of manager
unfolding is_cib_named
cib-below image seen manager i e = below-from i (cibs_of manager) (left-true (nat_lt i (cibs_of manager)) _ e)

-- a bitmap that must lie in the pool does
bitmap-placed : (image : List ℕ) (seen : Seen) (w : Unsettled image seen) (block : ℕ) → IsBitmap image (site_of seen) w.manager block → is_in_pool (site_of seen) w.manager block ≡ true
unfolding is_bitmap_placed
bitmap-placed image seen w block b =
    let low = told-below image seen w.manager b.chunk b.told in
    let chunk = chunk_at (site_of seen).block_size image w.manager b.chunk in
    let p = other-true (lacks_bitmap chunk) (is_in_pool (site_of seen) w.manager chunk.bitmap) b.some (w.shaped.space.bitmaps b.chunk low) in
    subst (λ k. is_in_pool (site_of seen) w.manager k ≡ true) (sym b.same) p

-- a block that must lie in the pool does
placed : (image : List ℕ) (seen : Seen) (w : Unsettled image seen) (block : ℕ) → MustBeInPool image (site_of seen) w.manager block → is_in_pool (site_of seen) w.manager block ≡ true
placed image seen w block (inr b) = bitmap-placed image seen w block b
placed image seen w block (inl (kind, inl (e, (i, n)))) = subst (λ k. is_in_pool (site_of seen) w.manager k ≡ true) (sym n.same) (w.shaped.space.cabs i (cab-below w.manager i n.named)).placed
placed image seen w block (inl (kind, inr (e, (i, n)))) = subst (λ k. is_in_pool (site_of seen) w.manager k ≡ true) (sym n.same) (w.shaped.space.cibs i (cib-below image seen w.manager i n.named)).placed

-- the shape of the space
pub refute-space : (image : List ℕ) (seen : Seen) (fault : SpaceFault) → IsMisshapen image seen fault → Unsettled image seen → ⊥
refute-space image seen (spaces.Unnamed within oid) p w = p
refute-space image seen (spaces.Unsound block why) p w = p
refute-space image seen spaces.Geometry p w = let q = by-manager image seen w _ p in clash _ w.shaped.space.shaped q
refute-space image seen (spaces.Cab i) p w = let q = by-manager image seen w _ p in clash _ (w.shaped.space.cabs i (cab-below w.manager i q.0)).right q.2
refute-space image seen (spaces.Cib i) p w = let q = by-manager image seen w _ p in clash _ (w.shaped.space.cibs i (cib-below image seen w.manager i q.0)).right q.2
refute-space image seen (spaces.Index k) p w = let q = by-manager image seen w _ p in clash _ (w.shaped.space.chunks k (told-below image seen w.manager k q.0)) q.1
refute-space image seen (spaces.Place block) p w = let q = by-manager image seen w _ p in clash _ (placed image seen w block q.0) q.1
refute-space image seen spaces.FreeTotal p w = let q = by-manager image seen w _ p in clash _ w.shaped.space.total q.1

-- the count and the indexes of the pool's bitmap
pool-counted : (image : List ℕ) (seen : Seen) (w : Unsettled image seen) → is_pool_count (site_of seen) w.manager ≡ true
unfolding is_pool_shaped
pool-counted image seen w = left-true (is_pool_count (site_of seen) w.manager) _ w.shaped.pool

pool-indexed : (image : List ℕ) (seen : Seen) (w : Unsettled image seen) (i : ℕ) → has_index w.manager i ≡ true → is_pool_index w.manager i ≡ true
unfolding is_pool_shaped has_index
pool-indexed image seen w i e =
    let low : i < pool_bitmap_blocks_of w.manager = below-from i (pool_bitmap_blocks_of w.manager) (left-true (nat_lt i (pool_bitmap_blocks_of w.manager)) _ e) in
    all-in (is_pool_index w.manager) (range_with_len 0 (pool_bitmap_blocks_of w.manager)) (right-true (is_pool_count (site_of seen) w.manager) _ w.shaped.pool) i (in-range 0 (pool_bitmap_blocks_of w.manager) i (omega arith) (omega arith))

pub refute-pool : (image : List ℕ) (seen : Seen) (fault : PoolFault) → IsPoolMisshapen image seen fault → Unsettled image seen → ⊥
refute-pool image seen (pools.Index i) p w = let q = by-manager image seen w _ p in clash _ (pool-indexed image seen w i q.0) q.1
refute-pool image seen pools.Count p w = let q = by-manager image seen w _ p in clash _ (pool-counted image seen w) q
refute-pool image seen (pools.Place block) p w = let q = by-manager image seen w _ p in clash _ (w.shaped.queued q.entry q.one) q.outside
refute-pool image seen (pools.Unnamed oid) p w = p
refute-pool image seen (pools.Walk root why) p w = p
refute-pool image seen (pools.Value root item) p w = p

pub refute-unsound : (image : List ℕ) (seen : Seen) (block : ℕ) (why : Why) → IsUnsound image seen block why → Unsettled image seen → ⊥
refute-unsound image seen block why u w =
    let t = w.names.named u.naming u.names.live in
    let e : ◌≡◌ {A = Option Found} (Some t.0) (Some u.object) = sym t.1.names.found ∙ u.names.found in
    let same : t.0 ≡ u.object = cc in
    let s : is_ok (tested (site_of seen) u.naming.expected u.naming.oid u.object.bytes) ≡ true =
    subst (λ (f : Found). is_ok (tested (site_of seen) u.naming.expected u.naming.oid f.bytes) ≡ true) same t.1.sound in
    clash _ s (ap (λ (a : Answer). is_ok a) u.fails)

-- no fault is present of what comes before the account of blocks
pub unsettled-refutes : (image : List ℕ) (seen : Seen) (fault : ReachFault) → IsReachedFault image seen fault → Unsettled image seen → ⊥
unsettled-refutes image seen (Unsound block why) p w = refute-unsound image seen block why p w
unsettled-refutes image seen (Unnamed within oid xid) p w = let t = w.names.named p.naming p.live in let z : ◌≡◌ {A = Option Found} None (Some t.0) = sym p.lost ∙ t.1.names.found in cc
unsettled-refutes image seen (NamedTwice within oid xid) p w = p.apart (w.names.once p.one p.other p.one_live p.other_live p.once p.same_view p.same_oid)
unsettled-refutes image seen (OwnedTwice block) p w = p
unsettled-refutes image seen (Outside block) p w = p
unsettled-refutes image seen (UnusedMapping within oid xid) p w = let t = w.names.used within p.map p.of p.mapping p.one p.kept in p.idle t.naming t.object t.names t.record_is
unsettled-refutes image seen (Leaked block) p w = p
unsettled-refutes image seen (Missing block) p w = p
unsettled-refutes image seen (PoolLeaked block) p w = p
unsettled-refutes image seen (PoolMissing block) p w = p
unsettled-refutes image seen (FreeCount chunk) p w = p
unsettled-refutes image seen (Space fault) p w = refute-space image seen fault p w
unsettled-refutes image seen (Pool fault) p w = refute-pool image seen fault p w
unsettled-refutes image seen (Tree root (Some item)) p w = let z : ◌≡◌ {A = Option ℕ} None (Some p.number) = sym (w.trees p.naming p.kind p.root.names.live p.root.root).ordered ∙ p.first in cc
unsettled-refutes image seen (Tree root None) p w = clash _ (w.trees p.naming p.kind p.root.names.live p.root.root).counted p.wrong
unsettled-refutes image seen (Value root item) p w = clash _ p.short ((w.trees p.naming p.kind p.root.names.live p.root.root).long p.number p.low)

-- no fault is present
pub refutes : (image : List ℕ) (seen : Seen) (fault : ReachFault) → Present image seen fault → IsAccounted image seen → ⊥
refutes image seen (Unsound block why) p w = unsettled-refutes image seen (Unsound block why) p (unsettled_of image seen w)
refutes image seen (Unnamed within oid xid) p w = unsettled-refutes image seen (Unnamed within oid xid) p (unsettled_of image seen w)
refutes image seen (NamedTwice within oid xid) p w = unsettled-refutes image seen (NamedTwice within oid xid) p (unsettled_of image seen w)
refutes image seen (OwnedTwice block) (inl p) w = p.apart (w.settled.apart block p.one p.other p.low p.one_owner p.other_owner p.one_covers p.other_covers)
refutes image seen (OwnedTwice block) (inr p) w = p.apart (w.pool.apart block p.one p.other (by-manager image seen (unsettled_of image seen w) (λ m. is_of_pool m block ≡ true) p.inside) p.one_owner p.other_owner p.one_covers p.other_covers)
refutes image seen (Outside block) p w = clash _ (w.settled.inside p.who p.owner p.some) p.leaves
refutes image seen (UnusedMapping within oid xid) p w = unsettled-refutes image seen (UnusedMapping within oid xid) p (unsettled_of image seen w)
refutes image seen (Leaked block) (m, free) w = let q = by-manager image seen (unsettled_of image seen w) _ m.by in let t = (w.settled.marked block m.low).0 q.1 in clash _ t.covers (free t.who t.owner)
refutes image seen (Missing block) (m, owned) w = let q = by-manager image seen (unsettled_of image seen w) _ m.by in clash _ ((w.settled.marked block m.low).1 owned) q.1
refutes image seen (PoolLeaked block) (m, free) w = let q = by-manager image seen (unsettled_of image seen w) _ m in let t = (w.pool.marked block q.0).0 q.2 in clash _ t.covers (free t.who t.owner)
refutes image seen (PoolMissing block) (m, owned) w = let q = by-manager image seen (unsettled_of image seen w) _ m in clash _ ((w.pool.marked block q.0).1 owned) q.2
refutes image seen (FreeCount chunk) p w = let q = by-manager image seen (unsettled_of image seen w) _ p in clash _ (w.settled.counts chunk (told-below image seen w.manager chunk q.0.told)) q.1
refutes image seen (Space fault) p w = unsettled-refutes image seen (Space fault) p (unsettled_of image seen w)
refutes image seen (Pool fault) p w = unsettled-refutes image seen (Pool fault) p (unsettled_of image seen w)
refutes image seen (Tree root (Some item)) p w = unsettled-refutes image seen (Tree root (Some item)) p (unsettled_of image seen w)
refutes image seen (Tree root None) p w = unsettled-refutes image seen (Tree root None) p (unsettled_of image seen w)
refutes image seen (Value root item) p w = unsettled-refutes image seen (Value root item) p (unsettled_of image seen w)

-- no feature is present
pub unsettled-plain : (image : List ℕ) (seen : Seen) (feature : Feature) (block : ℕ) → HasFeature image seen feature block → Unsettled image seen → ⊥
unsettled-plain image seen feature block (first p) w = subst (λ fs. In feature fs) w.plain.first p.0
unsettled-plain image seen feature block (of n live h) w = subst (λ (fs : List Placed). In (feature, block) fs) (w.plain.all n live) h

pub refutes-feature : (image : List ℕ) (seen : Seen) (feature : Feature) (block : ℕ) → HasFeature image seen feature block → IsAccounted image seen → ⊥
refutes-feature image seen feature block p w = unsettled-plain image seen feature block p (unsettled_of image seen w)

-- so where all is reached, nothing that is named on the way is there
pub reached-refutes : (image : List ℕ) (seen : Seen) (whole : Whole) (fault : ReachFault) → IsReachedFault image seen fault → IsReached image seen whole → ⊥
reached-refutes image seen whole fault p r = unsettled-refutes image seen fault p (record { names = r.names; trees = r.trees; plain = r.plain; manager = whole.space.manager; block = r.space.block; managed = r.space.manager; shaped = r.shaped })

pub reached-plain : (image : List ℕ) (seen : Seen) (whole : Whole) (feature : Feature) (block : ℕ) → HasFeature image seen feature block → IsReached image seen whole → ⊥
reached-plain image seen whole feature block p r = unsettled-plain image seen feature block p (record { names = r.names; trees = r.trees; plain = r.plain; manager = whole.space.manager; block = r.space.block; managed = r.space.manager; shaped = r.shaped })

-- and where all settles, nothing that is named where it doesn't
pub settled-refutes : (image : List ℕ) (whole : Whole) (number : ℕ) (fault : ReachFault) → IsSettleFault image whole fault → IsSettledWith image whole number → ⊥
settled-refutes image whole number (Unsound block why) p s = p
settled-refutes image whole number (Unnamed within oid xid) p s = p
settled-refutes image whole number (NamedTwice within oid xid) p s = p
settled-refutes image whole number (OwnedTwice block) (inl (low, t)) s = s.container.apart block t
settled-refutes image whole number (OwnedTwice block) (inr (within, t)) s = s.pool.apart block t
settled-refutes image whole number (Outside block) p s = clash _ (s.container.inside p.range p.one) p.leaves
settled-refutes image whole number (UnusedMapping within oid xid) p s = p
settled-refutes image whole number (Leaked block) p s = clash (mark_of image whole block) p.mark_is (s.container.marked block p.low ∙ p.held_is)
settled-refutes image whole number (Missing block) p s = clash (mark_of image whole block) (s.container.marked block p.low ∙ p.held_is) p.mark_is
settled-refutes image whole number (PoolLeaked block) p s = clash (pool_mark_of whole block) p.mark_is (s.pool.marked block p.inside ∙ p.held_is)
settled-refutes image whole number (PoolMissing block) p s = clash (pool_mark_of whole block) (s.pool.marked block p.inside ∙ p.held_is) p.mark_is
settled-refutes image whole number (FreeCount chunk) (low, wrong) s = clash _ (s.container.counts chunk low) wrong
settled-refutes image whole number (Space fault) p s = p
settled-refutes image whole number (Pool fault) p s = p
settled-refutes image whole number (Tree root item) p s = p
settled-refutes image whole number (Value root item) p s = p
