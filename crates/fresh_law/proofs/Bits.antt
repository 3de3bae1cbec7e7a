-- The marked blocks are the owned ones, and the free count is right.
use Rattle.std.proofs.Common.{arith, ◌≡◌, ℕ, ◌+◌, ◌-◌, ◌/◌, ◌%◌, ◌<◌, ◌≤◌, true, false, not, ◌==◌, nat_lt, List, [], ◌∷◌, ◌++◌, inl, inr, refl, ap, sym, ◌∙◌, subst}
use Rattle.std.proofs.lemmas.Grind.{common_steps}
use Rattle.std.specs.Prelude.{◌↔◌, flat_map}
use Rattle.apfs_model.specs.Bytes.{bit_at}
use Rattle.apfs_model.specs.Blocks.{block_of, is_inside}
use Rattle.apfs_model.specs.Lists.{In}
use Rattle.apfs_model.proofs.BoolTests.{clash, below-from, from-below, from-equal}
use Rattle.obj_base.specs.declared.site.Site.{Site}
use Rattle.space_map.specs.Fields.{ring_base_of, pool_base_of}
use Rattle.space_map.specs.Blocks.{cib_block}
use Rattle.space_map.specs.Chunks.{chunk_in, chunk_at}
use Rattle.space_map.specs.Marks.{is_marked_in, is_marked, free_in}
use Rattle.space_map.specs.Tests.{is_free_count}
use Rattle.space_pool.specs.Bits.{first_indexes, pool_bits_of, is_pool_marked}
use Rattle.reach_rules.specs.Faults.{lies_inside, is_of_pool}
use Rattle.reach_rules.specs.declared.owner.Owner.{Owner}
use Rattle.reach_rules.specs.Owners.{covers, IsOwner, IsOwned}
use Rattle.reach_rules.specs.PoolOwners.{IsPoolOwned}
use Rattle.reach_rules.specs.Accounted.{IsSettled, IsPoolSettled}
use Rattle.img_format.specs.declared.spec.Spec.{Spec}
use Rattle.img_format.specs.Valid.{IsValid}
use Rattle.fresh_law.specs.Site.{block_at}
use Rattle.fresh_law.specs.Checkpoint.{seen}
use Rattle.fresh_law.specs.Facts.{chunk, IsFresh}
use Rattle.fresh_law.proofs.Counted.{as-many, from-bound}
use Rattle.fresh_law.proofs.Sites.{site-is, range-inside}
use Rattle.fresh_law.proofs.Rows.{address-is}
use Rattle.fresh_law.proofs.Tiles.{covers-high, tile-ends, tile-apart, tile-owner}
use Rattle.fresh_law.proofs.Owned.{owners, owners-follow, pool_owners, pool-follow, idle_owners, owner-in, pool-owner-in, in-owner, in-pool-owner}

-- ---- the chunk
pub cib-is : (spec : Spec) (image : List ℕ) → IsFresh spec image → cib_block 4096 image (block_at image 9) 0 ≡ 43
unfolding cib_block
cib-is spec image f = rw f.manager.cabs (address-is spec (block_at image 9) f.manager)

pub chunk-is : (spec : Spec) (image : List ℕ) → IsFresh spec image → chunk_at 4096 image (block_at image 9) 0 ≡ chunk spec
unfolding chunk_at
chunk-is spec image f =
    ap (λ n. chunk_in (block_of 4096 image (cib_block 4096 image (block_at image 9) (0 / n))) (0 % n)) f.manager.cib_chunks
    ∙ ap (λ k. chunk_in (block_of 4096 image k) 0) (cib-is spec image f)
    ∙ f.info.chunk_is

-- a block is marked exactly where it is one of the first 57
in-chunk : (spec : Spec) (image : List ℕ) → IsValid spec → IsFresh spec image → (i : ℕ) → i < spec.blocks → is_marked_in 4096 image (chunk spec) i ≡ nat_lt i 57
unfolding is_marked_in
in-chunk spec image v f i low = f.bits i (omega (arith, low, v.most))

pub marked-is : (spec : Spec) (image : List ℕ) → IsValid spec → IsFresh spec image → (block : ℕ) → block < spec.blocks → is_marked 4096 image (block_at image 9) block ≡ nat_lt block 57
unfolding is_marked
marked-is spec image v f block low =
    let first : block / 32768 ≡ 0 = omega (arith, low, v.most) in
    let rest : block % 32768 ≡ block = omega (arith, low, v.most) in
    ap (λ k. is_marked_in 4096 image (chunk_at 4096 image (block_at image 9) k) (block % 32768)) first
    ∙ ap (λ i. is_marked_in 4096 image (chunk_at 4096 image (block_at image 9) 0) i) rest
    ∙ ap (λ c. is_marked_in 4096 image c block) (chunk-is spec image f)
    ∙ in-chunk spec image v f block low

-- ---- the free count
counts-is : (spec : Spec) (image : List ℕ) → IsValid spec → IsFresh spec image → is_free_count 4096 image (chunk spec) ≡ true
unfolding is_free_count free_in
counts-is spec image v f =
    let same = as-many (λ i. not (is_marked_in 4096 image (chunk spec) i)) (λ i. not (nat_lt i 57)) 0 spec.blocks (λ i l h. ap not (in-chunk spec image v f i (omega (arith, h)))) in
    from-equal (spec.blocks - 57) _ (sym (same ∙ from-bound 57 0 spec.blocks))

-- ---- the container
idle-none : (a : Owner) (block : ℕ) → In a idle_owners → covers a block ≡ true → ⊥
idle-none a block (inl e) c = let h = covers-high a block c in let n : a.first + a.blocks ≡ 0 = ap (λ (x : Owner). x.first + x.blocks) e in omega (arith, h, n)
idle-none a block (inr (inl e)) c = let h = covers-high a block c in let n : a.first + a.blocks ≡ 0 = ap (λ (x : Owner). x.first + x.blocks) e in omega (arith, h, n)
idle-none a block (inr (inr h)) c = absurd h

idle-empty : (a : Owner) → In a idle_owners → (a.blocks == 0) ≡ true
idle-empty a (inl e) = ap (λ (x : Owner). x.blocks == 0) e
idle-empty a (inr (inl e)) = ap (λ (x : Owner). x.blocks == 0) e
idle-empty a (inr (inr h)) = absurd h

owns : (spec : Spec) (image : List ℕ) → IsValid spec → IsFresh spec image → (a : Owner) (block : ℕ) → IsOwner image (seen image) a → covers a block ≡ true → In a owners
owns spec image v f a block o c = elim (owner-in spec image v f a o) as (λ _. In a owners) [ inl h ↦ h | inr k ↦ absurd (idle-none a block k c) ]

all-inside : (spec : Spec) (image : List ℕ) → IsValid spec → IsFresh spec image → (a : Owner) → IsOwner image (seen image) a → (a.blocks == 0) ≡ false → lies_inside (seen image) a ≡ true
all-inside spec image v f a o some = elim (owner-in spec image v f a o) as (λ _. lies_inside (seen image) a ≡ true) [
  | inl h ↦ subst (λ (s : Site). is_inside a.first a.blocks s.blocks ≡ true) (sym (site-is spec image f)) (range-inside spec v a.first a.blocks (tile-ends owners 0 57 owners-follow a h))
  | inr k ↦ clash (a.blocks == 0) (idle-empty a k) some
]

pub all-marked : (spec : Spec) (image : List ℕ) → IsValid spec → IsFresh spec image → (block : ℕ) → block < spec.blocks → (is_marked 4096 image (block_at image 9) block ≡ true) ↔ IsOwned image (seen image) block
all-marked spec image v f block low = (
  λ m.
      let below : block < 57 = below-from block 57 (sym (marked-is spec image v f block low) ∙ m) in
      let t = tile-owner owners 0 57 owners-follow block (omega arith) below in
      record { who = t.0; owner = in-owner spec image v f t.0 t.1.0; covers = t.1.1 },
  λ o.
      let h = owns spec image v f o.who block o.owner o.covers in
      let end = tile-ends owners 0 57 owners-follow o.who h in
      marked-is spec image v f block low ∙ from-below block 57 (omega (arith, covers-high o.who block o.covers, end)),
)

pub is-settled : (spec : Spec) (image : List ℕ) → IsValid spec → IsFresh spec image → IsSettled image (seen image) (block_at image 9)
is-settled spec image v f =
    let s = site-is spec image f in
    record {
      inside = all-inside spec image v f;
      apart = λ block a b low o p c d. tile-apart owners 0 57 owners-follow block a b (owns spec image v f a block o c) (owns spec image v f b block p d) c d;
      marked = subst (λ (x : Site). (block : ℕ) → block < x.blocks → (is_marked x.block_size image (block_at image 9) block ≡ true) ↔ IsOwned image (seen image) block) (sym s) (all-marked spec image v f);
      counts = λ k low.
          let first : k ≡ 0 = omega (arith, low, f.manager.chunks) in
          subst (λ (x : Site). is_free_count x.block_size image (chunk_at x.block_size image (block_at image 9) k) ≡ true) (sym s)
          (ap (λ j. is_free_count 4096 image (chunk_at 4096 image (block_at image 9) j)) first ∙ ap (is_free_count 4096 image) (chunk-is spec image f) ∙ counts-is spec image v f);
    }

-- ---- the pool
append-none : (xs : List ℕ) → xs ++ [] ≡ xs
append-none [] = refl
append-none (x ∷ xs) = ap (λ ys. x ∷ ys) (append-none xs)

pool-bits : (spec : Spec) (image : List ℕ) → IsFresh spec image → pool_bits_of 4096 image (block_at image 9) ≡ block_at image 27
unfolding pool_bits_of
pool-bits spec image f =
    let m = f.manager in
    ap (λ n. flat_map (λ index. block_of 4096 image (ring_base_of (block_at image 9) + index)) (first_indexes (block_at image 9) n)) m.bitmap_blocks
    ∙ ap (λ i. block_of 4096 image (ring_base_of (block_at image 9) + i) ++ []) m.index
    ∙ ap (λ b. block_of 4096 image (b + 0) ++ []) m.ring_base
    ∙ append-none (block_at image 27)

pool-low : (spec : Spec) (image : List ℕ) → IsFresh spec image → (block : ℕ) → is_of_pool (block_at image 9) block ≡ true → 43 ≤ block
pool-low spec image f block e = Prim.grind (arith, common_steps, e, f.manager.pool_base, f.manager.pool_blocks)

pool-high : (spec : Spec) (image : List ℕ) → IsFresh spec image → (block : ℕ) → is_of_pool (block_at image 9) block ≡ true → block < 51
pool-high spec image f block e = Prim.grind (arith, common_steps, e, f.manager.pool_base, f.manager.pool_blocks)

pool-marked-is : (spec : Spec) (image : List ℕ) → IsFresh spec image → (block : ℕ) → block < 51 → is_pool_marked 4096 image (block_at image 9) block ≡ nat_lt (block - 43) 2
unfolding is_pool_marked
pool-marked-is spec image f block high =
    ap (λ bits. bit_at bits (block - pool_base_of (block_at image 9))) (pool-bits spec image f)
    ∙ ap (λ b. bit_at (block_at image 27) (block - b)) f.manager.pool_base
    ∙ f.pool_bits (block - 43) (omega (arith, high))

all-pool-marked : (spec : Spec) (image : List ℕ) → IsValid spec → IsFresh spec image → (block : ℕ) → is_of_pool (block_at image 9) block ≡ true → (is_pool_marked 4096 image (block_at image 9) block ≡ true) ↔ IsPoolOwned image (seen image) block
all-pool-marked spec image v f block e =
    let low = pool-low spec image f block e in
    let high = pool-high spec image f block e in (
      λ m.
          let below : block - 43 < 2 = below-from (block - 43) 2 (sym (pool-marked-is spec image f block high) ∙ m) in
          let t = tile-owner pool_owners 43 45 pool-follow block low (omega (arith, low, below)) in
          record { who = t.0; owner = in-pool-owner spec image v f t.0 t.1.0; covers = t.1.1 },
      λ o.
          let h = pool-owner-in spec image v f o.who o.owner in
          let end = tile-ends pool_owners 43 45 pool-follow o.who h in
          pool-marked-is spec image f block high ∙ from-below (block - 43) 2 (omega (arith, low, covers-high o.who block o.covers, end)),
    )

pub is-pool-settled : (spec : Spec) (image : List ℕ) → IsValid spec → IsFresh spec image → IsPoolSettled image (seen image) (block_at image 9)
is-pool-settled spec image v f = record {
  apart = λ block a b e o p c d. tile-apart pool_owners 43 45 pool-follow block a b (pool-owner-in spec image v f a o) (pool-owner-in spec image v f b p) c d;
  marked = subst (λ (x : Site). (block : ℕ) → is_of_pool (block_at image 9) block ≡ true → (is_pool_marked x.block_size image (block_at image 9) block ≡ true) ↔ IsPoolOwned image (seen image) block) (sym (site-is spec image f)) (all-pool-marked spec image v f);
}
