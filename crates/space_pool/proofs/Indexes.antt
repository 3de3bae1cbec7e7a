-- The indexes of the pool's current bitmap, one after the other.
use Rattle.std.specs.Prelude.{◌≡◌, ℕ, ◌+◌, ◌*◌, ◌^◌, ◌≤◌, ◌<◌, ◌==◌, nat_lt, nat_le, not, ◌&&◌, ◌||◌, Bool, true, false, List, [], ◌∷◌, ◌++◌, length, map, refl, Option, None, Some, IfNone}
use Rattle.std.specs.List.{range_with_len, list_all, flat_map}
use Rattle.std.proofs.Common.{arith, ap, sym, ◌∙◌, inl, inr, get_or, set}
use Rattle.std.proofs.lemmas.Grind.{flat_map-append}
use Rattle.std.proofs.lemmas.List.{get_or-set_same, get_or-set_other, append-nil}
use Rattle.std.proofs.lemmas.List.Folds.{list_all-append, list_any-append}
use Rattle.std.proofs.lemmas.List.FromFn.{map-range_with_len_more}
use Rattle.apfs_model.specs.Blocks.{block_of, is_inside}
use Rattle.apfs_model.specs.Lists.{has}
use Rattle.apfs_model.proofs.BoolTests.{test_or, left-true, right-true, both-true, equal-from, unequal-from, upto-from, from-upto, below-from, from-below, all-in, in-range, right-or}
use Rattle.apfs_model.specs.Kept.{IsKept}
use Rattle.obj_base.specs.declared.site.Site.{Site}
use Rattle.obj_base.specs.declared.stop.Stop.{Stop}
use Rattle.obj_base.specs.declared.stop.Stop.TheVariants.{Found, Unsupported, ReadFault, NoMemory}
use Rattle.obj_base.specs.Stops.{Tells, IsFree, NoFeature}
use Rattle.nx_ring.specs.Checkpoint.{Seen, site_of}
use Rattle.space_map.specs.Fields.{pool_base_of, pool_blocks_of, pool_bitmap_blocks_of, ring_blocks_of, ring_base_of, indexes_of}
use Rattle.space_pool.specs.Bits.{index_at, first_indexes, indexes_in, has_indexes, has_index, has_pool_bits, is_pool_count, is_pool_index, is_pool_shaped, pool_bits_of}
use Rattle.space_pool.specs.Read.{IsWrongIndex}
use Rattle.space_pool.specs.Stops.{IsPoolFault}
use Rattle.space_pool.specs.declared.fault.PoolFault.{PoolFault}
use Rattle.space_pool.proofs.Laws.{pool-refutes}

pub indexes-more : (manager : List ℕ) (n : ℕ) → first_indexes manager (n + 1) ≡ first_indexes manager n ++ index_at manager n ∷ []
indexes-more manager n = map-range_with_len_more (index_at manager) 0 n n (omega arith)

or-none : (b : Bool) → (b || false) ≡ b
or-none true = refl
or-none false = refl

has-more : (ns : List ℕ) (m k : ℕ) → has (ns ++ m ∷ []) k ≡ (has ns k || (m == k))
has-more ns m k = list_any-append (λ n. n == k) ns (m ∷ []) ∙ ap (λ (b : Bool). has ns k || b) (or-none (m == k))

mark-if : (marks : List Bool) (number k : ℕ) (seen : Bool) → number < length marks → get_or marks k false ≡ seen → get_or (set marks number true) k false ≡ (seen || (number == k))
mark-if marks number k seen low e = elim (test_or (number == k)) as (λ _. get_or (set marks number true) k false ≡ (seen || (number == k))) [
  | inl t ↦ ap (λ (n : ℕ). get_or (set marks number true) n false) (sym (equal-from number k t)) ∙ (get_or-set_same marks number true false low ∙ sym (right-or seen (number == k) t))
  | inr f ↦ get_or-set_other marks number k true false (λ s. unequal-from number k f (sym s)) ∙ (e ∙ sym (ap (λ (b : Bool). seen || b) f ∙ or-none seen))
]

-- the marks of the indexes met, after one more
pub marks-more : (manager : List ℕ) (marks new : List Bool) (n number : ℕ) → number ≡ index_at manager n → number < length marks → new ≡ set marks number true
    → ((k : ℕ) → k < 65536 → get_or marks k false ≡ has (first_indexes manager n) k) → (k : ℕ) → k < 65536 → get_or new k false ≡ has (first_indexes manager (n + 1)) k
marks-more manager marks new n number same low e had k small =
    ap (λ (xs : List Bool). get_or xs k false) e
    ∙ (mark-if marks number k (has (first_indexes manager n) k) low (had k small)
    ∙ (ap (λ (m : ℕ). has (first_indexes manager n) k || (m == k)) same
    ∙ (sym (has-more (first_indexes manager n) (index_at manager n) k) ∙ ap (λ (ns : List ℕ). has ns k) (sym (indexes-more manager n)))))

-- an index passes where it lies in the ring and isn't marked
pub index-passes : (manager : List ℕ) (marks : List Bool) (n number ring : ℕ) (right : Bool) → number ≡ index_at manager n → ring ≡ ring_blocks_of manager → number < 65536 → ((k : ℕ) → k < 65536 → get_or marks k false ≡ has (first_indexes manager n) k)
    → right ≡ (nat_lt number ring && not (get_or marks number false)) → is_pool_index manager n ≡ right
unfolding is_pool_index
index-passes manager marks n number ring right same at small had e =
    sym (e
    ∙ (ap (λ (b : Bool). nat_lt number ring && not b) (had number small)
    ∙ (ap (λ (r : ℕ). nat_lt number r && not (has (first_indexes manager n) number)) at
    ∙ ap (λ (m : ℕ). nat_lt m (ring_blocks_of manager) && not (has (first_indexes manager n) m)) same)))

map-same : (ns : List ℕ) → map (λ (n : ℕ). n) ns ≡ ns
map-same [] = refl
map-same (n ∷ ns) = ap (λ (ms : List ℕ). n ∷ ms) (map-same ns)

range-more : (n : ℕ) → range_with_len 0 (n + 1) ≡ range_with_len 0 n ++ n ∷ []
range-more n = sym (map-same (range_with_len 0 (n + 1))) ∙ (map-range_with_len_more (λ (m : ℕ). m) 0 n n (omega arith) ∙ ap (λ (ms : List ℕ). ms ++ n ∷ []) (map-same (range_with_len 0 n)))

-- all indexes up to one more pass
pub right-more : (manager : List ℕ) (n : ℕ) → list_all (is_pool_index manager) (range_with_len 0 n) ≡ true → is_pool_index manager n ≡ true → list_all (is_pool_index manager) (range_with_len 0 (n + 1)) ≡ true
right-more manager n had e =
    ap (list_all (is_pool_index manager)) (range-more n)
    ∙ (list_all-append (is_pool_index manager) (range_with_len 0 n) (n ∷ [])
    ∙ both-true (list_all (is_pool_index manager) (range_with_len 0 n)) (is_pool_index manager n && true) had (both-true (is_pool_index manager n) true e refl))

index-is : (manager : List ℕ) (n : ℕ) → n < pool_bitmap_blocks_of manager → indexes_of manager + 2 * pool_bitmap_blocks_of manager ≤ length manager → has_index manager n ≡ true
unfolding has_index
index-is manager n low inside =
    both-true (nat_lt n (pool_bitmap_blocks_of manager)) (nat_le (indexes_of manager + 2 * n + 2) (length manager))
    (from-below n (pool_bitmap_blocks_of manager) low) (from-upto (indexes_of manager + 2 * n + 2) (length manager) (omega (arith, low, inside)))

-- an index that doesn't pass is there
pub wrong-index : (manager : List ℕ) (n : ℕ) → n < pool_bitmap_blocks_of manager → indexes_of manager + 2 * pool_bitmap_blocks_of manager ≤ length manager → is_pool_index manager n ≡ false → IsWrongIndex manager n
wrong-index manager n low inside e = record { some = index-is manager n low inside; wrong = e }

-- the blocks of the first indexes, and of one more
pub joined-more : (size : ℕ) (image manager : List ℕ) (base n block : ℕ) (old new : List ℕ) → old ≡ flat_map (λ index. block_of size image (base + index)) (first_indexes manager n) → new ≡ old ++ block_of size image block → block ≡ base + index_at manager n
    → new ≡ flat_map (λ index. block_of size image (base + index)) (first_indexes manager (n + 1))
joined-more size image manager base n block old new had e same =
    let f : ℕ → List ℕ = λ index. block_of size image (base + index) in
    e ∙ (ap (λ (xs : List ℕ). xs ++ block_of size image block) had
    ∙ (ap (λ (b : ℕ). flat_map f (first_indexes manager n) ++ block_of size image b) same
    ∙ (ap (λ (xs : List ℕ). flat_map f (first_indexes manager n) ++ xs) (sym (append-nil (f (index_at manager n))))
    ∙ (sym (flat_map-append f (first_indexes manager n) (index_at manager n ∷ [])) ∙ ap (flat_map f) (sym (indexes-more manager n))))))

pub joined-all : (size : ℕ) (image manager : List ℕ) (base n : ℕ) (bits : List ℕ) → n ≡ pool_bitmap_blocks_of manager → base ≡ ring_base_of manager → bits ≡ flat_map (λ index. block_of size image (base + index)) (first_indexes manager n) → bits ≡ pool_bits_of size image manager
unfolding pool_bits_of
joined-all size image manager base n bits all same e =
    e ∙ (ap (λ (m : ℕ). flat_map (λ index. block_of size image (base + index)) (first_indexes manager m)) all
    ∙ ap (λ (b : ℕ). flat_map (λ index. block_of size image (b + index)) (indexes_in manager)) same)

-- what a right count says
pub count-inside : (site : Site) (manager : List ℕ) → is_pool_count site manager ≡ true → indexes_of manager + 2 * pool_bitmap_blocks_of manager ≤ length manager
unfolding is_pool_count has_indexes
count-inside site manager e = upto-from (indexes_of manager + 2 * pool_bitmap_blocks_of manager) (length manager) (right-true (has_pool_bits site.block_size manager) _ (left-true _ _ e))

ring-inside : (site : Site) (manager : List ℕ) → is_pool_count site manager ≡ true → is_inside (ring_base_of manager) (ring_blocks_of manager) site.blocks ≡ true
unfolding is_pool_count
ring-inside site manager e = right-true (is_inside (pool_base_of manager) (pool_blocks_of manager) site.blocks) _ (right-true (has_pool_bits site.block_size manager && has_indexes manager) _ e)

pub ring-low : (site : Site) (manager : List ℕ) → is_pool_count site manager ≡ true → ring_base_of manager < 2 ^ 63
ring-low site manager e = below-from (ring_base_of manager) (2 ^ 63) (left-true _ _ (ring-inside site manager e))

-- and what a right shape says
pub shaped-count : (site : Site) (manager : List ℕ) → is_pool_shaped site manager ≡ true → is_pool_count site manager ≡ true
unfolding is_pool_shaped
shaped-count site manager e = left-true _ _ e

index-low : (manager : List ℕ) (i : ℕ) → is_pool_index manager i ≡ true → index_at manager i < ring_blocks_of manager
unfolding is_pool_index
index-low manager i e = below-from (index_at manager i) (ring_blocks_of manager) (left-true _ _ e)

pub shaped-below : (site : Site) (manager : List ℕ) → is_pool_shaped site manager ≡ true → (i : ℕ) → i < pool_bitmap_blocks_of manager → ring_base_of manager + index_at manager i < site.blocks
unfolding is_pool_shaped
shaped-below site manager e i low =
    let each : is_pool_index manager i ≡ true = all-in (is_pool_index manager) (range_with_len 0 (pool_bitmap_blocks_of manager)) (right-true (is_pool_count site manager) _ e) i (in-range 0 (pool_bitmap_blocks_of manager) i (omega arith) (omega arith)) in
    let in_ring : index_at manager i < ring_blocks_of manager = index-low manager i each in
    let ring : ring_base_of manager + ring_blocks_of manager ≤ site.blocks = upto-from (ring_base_of manager + ring_blocks_of manager) site.blocks (right-true (nat_lt (ring_base_of manager) (2 ^ 63)) _ (ring-inside site manager (left-true _ _ e))) in
    omega (arith, in_ring, ring)

pub shaped-from : (site : Site) (manager : List ℕ) → is_pool_count site manager ≡ true → list_all (is_pool_index manager) (range_with_len 0 (pool_bitmap_blocks_of manager)) ≡ true → is_pool_shaped site manager ≡ true
unfolding is_pool_shaped
shaped-from site manager e f = both-true (is_pool_count site manager) _ e f

-- what is kept over one call and then another
pub kept-then : {S : Type 0} (bytes : S → Option (List ℕ)) (size faults : S → ℕ) (a b c : S) → IsKept bytes size faults a b → IsKept bytes size faults b c → IsKept bytes size faults a c
kept-then bytes size faults a b c h k = let p = h.later in let q = k.later in record { same_bytes = k.same_bytes ∙ h.same_bytes; same_size = k.same_size ∙ h.same_size; later = omega (arith, p, q) }

pub none-then : (o : Option ℕ) (P : Type 0) → o ≡ None → IfNone o P → P
none-then None P e h = h
none-then (Some n) P e h = absurd (cc)

-- where the bitmap's shape is right, only the source or the memory stops a call
pub shaped_free : (seen : Seen) (manager : List ℕ) (stop : Stop PoolFault) → is_pool_shaped (site_of seen) manager ≡ true → Tells (IsPoolFault seen manager) NoFeature stop → IsFree stop
shaped_free seen manager (Found fault) shaped told = pool-refutes seen manager fault shaped told
shaped_free seen manager (Unsupported feature block) shaped told = told
shaped_free seen manager ReadFault shaped told = tt
shaped_free seen manager NoMemory shaped told = tt
