-- The space manager, what tells of chunks, and the pool's bitmap have their shape.
use Rattle.std.proofs.Common.{arith, ◌≡◌, ℕ, ◌+◌, ◌/◌, ◌<◌, ◌≤◌, true, false, ◌&&◌, List, [], Some, is_ok, refl, ap, sym, ◌∙◌, subst}
use Rattle.std.proofs.lemmas.Grind.{common_steps}
use Rattle.std.specs.Prelude.{is_some, option_and_then}
use Rattle.apfs_model.specs.Object.{space_kind, cib_kind}
use Rattle.apfs_model.specs.Blocks.{block_of, in_container}
use Rattle.apfs_model.specs.Lists.{In}
use Rattle.apfs_model.proofs.BoolTests.{both-true}
use Rattle.obj_base.specs.declared.site.Site.{Site}
use Rattle.obj_base.specs.Sound.{sound_of, expecting}
use Rattle.nx_ring.specs.Checkpoint.{site_of, eph, object_block_of}
use Rattle.space_map.specs.Geometry.{has_units, has_rooms, has_numbers, has_addresses, is_shaped}
use Rattle.space_map.specs.Blocks.{manager_block, manager_test, is_info}
use Rattle.space_map.specs.Chunks.{chunk_at, chunks_in}
use Rattle.space_map.specs.Tests.{is_cib, is_chunk, is_in_pool, is_free_total}
use Rattle.space_map.specs.Stops.{is_fusion, HasManager, IsRightCib, is_bitmap_placed, IsRightSpace}
use Rattle.space_pool.specs.Bits.{has_pool_bits, has_indexes, is_pool_count, is_pool_index, is_pool_shaped}
use Rattle.space_pool.specs.Queues.{queue_of, queue_entries}
use Rattle.space_pool.specs.declared.entry.Queue.TheVariants.{Pool}
use Rattle.reach_rules.specs.Accounted.{IsShaped}
use Rattle.img_format.specs.declared.spec.Spec.{Spec}
use Rattle.img_format.specs.Valid.{IsValid}
use Rattle.fresh_law.specs.Site.{block_at, site}
use Rattle.fresh_law.specs.Checkpoint.{seen}
use Rattle.fresh_law.specs.Facts.{chunk, IsManager, IsInfo, IsFresh}
use Rattle.fresh_law.proofs.Heads.{head-sound}
use Rattle.fresh_law.proofs.Sites.{site-is, inside}
use Rattle.fresh_law.proofs.Bits.{cib-is, chunk-is}
use Rattle.fresh_law.proofs.Owned.{manager-of, pool_queue-empty}

-- the manager is there, and sound
manager-at : (spec : Spec) (image : List ℕ) → IsValid spec → IsFresh spec image → manager_block (seen image) ≡ Some 9
unfolding eph
manager-at spec image v f =
    ap (λ oid. option_and_then (in_container (site_of (seen image)).blocks) (object_block_of (seen image) oid)) f.newest.space
    ∙ ap (λ (s : Site). in_container s.blocks 9) (site-is spec image f)
    ∙ inside spec v 9 (omega arith) (omega arith)

manager-tests : (spec : Spec) (image : List ℕ) → IsFresh spec image → is_ok (manager_test (seen image) (block_at image 9)) ≡ true
manager-tests spec image f =
    ap (λ oid. is_ok (sound_of (block_at image 9) (expecting space_kind (Some oid) 1))) f.newest.space
    ∙ head-sound 1024 0x80000005 0 space_kind 1 (block_at image 9) f.manager.head refl refl refl (omega arith)

pub has-manager : (spec : Spec) (image : List ℕ) → IsValid spec → IsFresh spec image → HasManager (seen image) (block_at image 9) 9
has-manager spec image v f = record { some = manager-of spec image f; at = manager-at spec image v f; sound = manager-tests spec image f }

-- ---- its shape
units : (spec : Spec) (m : List ℕ) → IsManager spec m → has_units 4096 m ≡ true
unfolding has_units
units spec m i = rw (i.unit, i.chunk_blocks)

rooms : (spec : Spec) (m : List ℕ) → IsManager spec m → has_rooms 4096 m ≡ true
unfolding has_rooms
rooms spec m i = rw (i.cib_chunks, i.cab_cibs)

one-chunk : (spec : Spec) → IsValid spec → (spec.blocks + 32767) / 32768 ≡ 1
one-chunk spec v = omega (arith, v.least, v.most)

numbers : (spec : Spec) (m : List ℕ) → IsValid spec → IsManager spec m → has_numbers (site spec) m ≡ true
unfolding has_numbers
numbers spec m v i = rw (i.blocks, i.chunks, i.cib_chunks, i.cibs, i.cabs, one-chunk spec v) (Prim.grind (arith, common_steps))

addresses : (spec : Spec) (m : List ℕ) → IsManager spec m → has_addresses m ≡ true
unfolding has_addresses
addresses spec m i = rw (i.addresses, i.cabs, i.cibs, i.head.long)

shaped : (spec : Spec) (m : List ℕ) → IsValid spec → IsManager spec m → is_shaped (site spec) m ≡ true
unfolding is_shaped
shaped spec m v i = both-true (has_units 4096 m && has_rooms 4096 m) _ (both-true (has_units 4096 m) _ (units spec m i) (rooms spec m i)) (both-true (has_numbers (site spec) m) _ (numbers spec m v i) (addresses spec m i))

in-pool : (spec : Spec) (m : List ℕ) → IsValid spec → IsManager spec m → (k : ℕ) → 43 ≤ k → k < 51 → is_in_pool (site spec) m k ≡ true
unfolding is_in_pool
in-pool spec m v i k l h = Prim.grind (arith, common_steps, i.pool_base, i.pool_blocks, l, h, v.least)

-- the chunk-info block
info-right : (spec : Spec) (image : List ℕ) → IsValid spec → IsFresh spec image → is_info image (site spec) cib_kind 43 ≡ true
unfolding is_info
info-right spec image v f =
    both-true (is_some (in_container spec.blocks 43)) _ (ap is_some (inside spec v 43 (omega arith) (omega arith)))
    (head-sound 43 0x40000007 0 cib_kind 1 (block_at image 43) f.info.head refl refl refl (omega arith))

counts-one : (spec : Spec) (m cib : List ℕ) → IsManager spec m → IsInfo spec cib → is_cib m 0 cib ≡ true
unfolding is_cib
counts-one spec m cib i c = rw (c.index, c.count, i.chunks, i.cib_chunks)

right-cib : (spec : Spec) (image : List ℕ) → IsValid spec → IsFresh spec image → IsRightCib image (site spec) (block_at image 9) 0
right-cib spec image v f =
    let m = block_at image 9 in
    let e = sym (cib-is spec image f) in
    record {
      placed = subst (λ k. is_in_pool (site spec) m k ≡ true) e (in-pool spec m v f.manager 43 (omega arith) (omega arith));
      sound = subst (λ k. is_info image (site spec) cib_kind k ≡ true) e (info-right spec image v f);
      right = subst (λ k. is_cib m 0 (block_of 4096 image k) ≡ true) e (counts-one spec m (block_at image 43) f.manager f.info);
    }

-- the chunk
chunk-right : (spec : Spec) → IsValid spec → is_chunk (site spec) 0 (chunk spec) ≡ true
unfolding is_chunk
chunk-right spec v = Prim.grind (arith, common_steps, v.most)

bitmap-right : (spec : Spec) (m : List ℕ) → IsValid spec → IsManager spec m → is_bitmap_placed (site spec) m (chunk spec) ≡ true
unfolding is_bitmap_placed
bitmap-right spec m v i = in-pool spec m v i 44 (omega arith) (omega arith)

total-right : (spec : Spec) (image : List ℕ) → IsFresh spec image → is_free_total 4096 image (block_at image 9) ≡ true
unfolding is_free_total chunks_in
total-right spec image f = rw (f.manager.chunks, chunk-is spec image f, f.manager.free) (Prim.grind (arith, common_steps))

pub plain : (spec : Spec) (m : List ℕ) → IsManager spec m → is_fusion m ≡ false
unfolding is_fusion
plain spec m i = rw (i.second, i.tier_queue)

right-space : (spec : Spec) (image : List ℕ) → IsValid spec → IsFresh spec image → IsRightSpace image (site spec) (block_at image 9)
right-space spec image v f =
    let m = block_at image 9 in
    let i = f.manager in
    record {
      plain = rw (plain spec m i);
      shaped = shaped spec m v i;
      cabs = λ k low. absurd (omega (arith, low, i.cabs));
      cibs = λ k low. let first : k ≡ 0 = omega (arith, low, i.cibs) in subst (λ j. IsRightCib image (site spec) m j) (sym first) (right-cib spec image v f);
      chunks = λ k low. let first : k ≡ 0 = omega (arith, low, i.chunks) in
          subst (λ j. is_chunk (site spec) j (chunk_at 4096 image m j) ≡ true) (sym first) (ap (is_chunk (site spec) 0) (chunk-is spec image f) ∙ chunk-right spec v);
      bitmaps = λ k low. let first : k ≡ 0 = omega (arith, low, i.chunks) in
          subst (λ j. is_bitmap_placed (site spec) m (chunk_at 4096 image m j) ≡ true) (sym first) (ap (is_bitmap_placed (site spec) m) (chunk-is spec image f) ∙ bitmap-right spec m v i);
      total = total-right spec image f;
    }

-- ---- the pool
pool-count : (spec : Spec) (m : List ℕ) → IsValid spec → IsManager spec m → is_pool_count (site spec) m ≡ true
unfolding is_pool_count has_pool_bits has_indexes
pool-count spec m v i =
    rw (i.pool_blocks, i.bitmap_blocks, i.indexes, i.head.long, i.pool_base, i.ring_base, i.ring_blocks)
    (Prim.grind (arith, common_steps, v.least))

pool-index : (spec : Spec) (m : List ℕ) → IsManager spec m → is_pool_index m 0 ≡ true
unfolding is_pool_index
pool-index spec m i = rw (i.index, i.ring_blocks)

pool-shaped : (spec : Spec) (m : List ℕ) → IsValid spec → IsManager spec m → is_pool_shaped (site spec) m ≡ true
unfolding is_pool_shaped
pool-shaped spec m v i = rw (pool-count spec m v i, i.bitmap_blocks, pool-index spec m i)

-- nothing is queued
none-queued : (spec : Spec) (image : List ℕ) → IsValid spec → IsFresh spec image → queue_of image (seen image) (block_at image 9) Pool ≡ []
none-queued spec image v f = ap (queue_entries image (seen image)) f.manager.pool_queue ∙ pool_queue-empty spec image v f

pub is-shaped : (spec : Spec) (image : List ℕ) → IsValid spec → IsFresh spec image → IsShaped image (seen image) (block_at image 9)
is-shaped spec image v f =
    let s = sym (site-is spec image f) in
    record {
      space = subst (λ x. IsRightSpace image x (block_at image 9)) s (right-space spec image v f);
      pool = subst (λ x. is_pool_shaped x (block_at image 9) ≡ true) s (pool-shaped spec (block_at image 9) v f.manager);
      queued = λ e h. absurd (subst (λ es. In e es) (none-queued spec image v f) h);
    }
