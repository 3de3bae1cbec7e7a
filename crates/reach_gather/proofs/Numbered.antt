-- The blocks that tell of chunks, and the bitmaps of chunks, one by one.
use Rattle.std.proofs.Common.{◌≡◌, ℕ, zero, suc, ◌+◌, ◌<◌, ◌≤◌, Bool, true, false, List, [], ◌∷◌, ◌++◌, length, map, take, get_or, inl, inr, refl, ap, sym, ◌∙◌, subst, arith}
use Rattle.std.specs.Prelude.{◌==◌, if◌then◌else◌}
use Rattle.std.specs.List.{range_with_len}
use Rattle.std.proofs.lemmas.Bool.{cases_lt}
use Rattle.std.proofs.lemmas.List.{take_more, append-nil, append_assoc, map-append, length-take-le}
use Rattle.std.proofs.lemmas.List.FromFn.{map-range_with_len_more}
use Rattle.apfs_model.specs.Lists.{In}
use Rattle.apfs_model.proofs.BoolTests.{test_or}
use Rattle.apfs_model.proofs.Searches.{in-left, in-right, in-append}
use Rattle.space_map.specs.declared.chunk.Chunk.{Chunk}
use Rattle.reach_rules.specs.declared.naming.Naming.{Naming}
use Rattle.reach_rules.specs.declared.owner.Who.TheVariants.{Bitmap}
use Rattle.reach_rules.specs.declared.owner.Owner.{Owner}
use Rattle.reach_rules.specs.Owners.{owner}
use Rattle.reach_gather.specs.Infos.{bitmap_at, bitmaps_from}
use Rattle.reach_gather.specs.Steps.{block_owner}

-- one more naming, and its block
pub named-more : (f : ℕ → Naming) (n : ℕ) (x : Naming) (old mid new : List Naming) → x ≡ f n → mid ≡ old ++ map f (range_with_len 0 n) → new ≡ mid ++ x ∷ [] → new ≡ old ++ map f (range_with_len 0 (n + 1))
named-more f n x old mid new is m given =
    let so_far : List Naming = map f (range_with_len 0 n) in
    given
    ∙ (ap (λ ys. ys ++ x ∷ []) m
    ∙ (append_assoc old so_far (x ∷ [])
    ∙ ap (λ ys. old ++ ys) (ap (λ y. so_far ++ y ∷ []) is ∙ sym (map-range_with_len_more f 0 n n (omega arith)))))

pub owned-more : (f : ℕ → Naming) (n : ℕ) (x : Naming) (old mid new : List Owner) → x ≡ f n → mid ≡ old ++ map block_owner (map f (range_with_len 0 n)) → new ≡ mid ++ block_owner x ∷ [] → new ≡ old ++ map block_owner (map f (range_with_len 0 (n + 1)))
owned-more f n x old mid new is m given =
    let so_far : List Naming = map f (range_with_len 0 n) in
    given
    ∙ (ap (λ ys. ys ++ block_owner x ∷ []) m
    ∙ (append_assoc old (map block_owner so_far) (block_owner x ∷ [])
    ∙ ap (λ ys. old ++ ys) (ap (λ y. map block_owner so_far ++ block_owner y ∷ []) is ∙ (sym (map-append block_owner so_far (f n ∷ [])) ∙ ap (map block_owner) (sym (map-range_with_len_more f 0 n n (omega arith)))))))

-- one more bitmap
bitmaps-more : (k : ℕ) (xs : List Chunk) (x : Chunk) → bitmaps_from k (xs ++ x ∷ []) ≡ bitmaps_from k xs ++ bitmap_at (k + length xs) x
bitmaps-more k [] x = append-nil (bitmap_at k x) ∙ ap (λ i. bitmap_at i x) (let e : k ≡ k + 0 = omega arith in e)
bitmaps-more k (y ∷ ys) x =
    ap (λ os. bitmap_at k y ++ os) (bitmaps-more (k + 1) ys x ∙ ap (λ i. bitmaps_from (k + 1) ys ++ bitmap_at i x) (let e : (k + 1) + length ys ≡ k + suc (length ys) = omega arith in e))
    ∙ sym (append_assoc (bitmap_at k y) (bitmaps_from (k + 1) ys) (bitmap_at (k + suc (length ys)) x))

bitmap-kept : (i : ℕ) (first : ℕ) (b : Bool) → (if (if b then 0 else 1) == 0 then [] else owner (Bitmap i) first (if b then 0 else 1) ∷ []) ≡ (if b then [] else owner (Bitmap i) first 1 ∷ [])
bitmap-kept i first true = refl
bitmap-kept i first false = refl

pub bitmaps-step : (chunks : List Chunk) (i : ℕ) (d : Chunk) (o : Owner) (old mid new : List Owner) → i < length chunks → o ≡ owner (Bitmap i) (get_or chunks i d).bitmap (if (get_or chunks i d).bitmap == 0 then 0 else 1)
    → mid ≡ old ++ bitmaps_from 0 (take i chunks) → new ≡ mid ++ (if o.blocks == 0 then [] else o ∷ []) → new ≡ old ++ bitmaps_from 0 (take (i + 1) chunks)
bitmaps-step chunks i d o old mid new low same m given =
    let x : Chunk = get_or chunks i d in
    let so_far : List Owner = bitmaps_from 0 (take i chunks) in
    let more : take (i + 1) chunks ≡ take i chunks ++ x ∷ [] = take_more chunks i d low in
    let long = length-take-le i chunks (omega arith) in
    let place : 0 + length (take i chunks) ≡ i = omega (arith, long) in
    given
    ∙ (ap (λ (q : Owner). mid ++ (if q.blocks == 0 then [] else q ∷ [])) same
    ∙ (ap (λ ys. mid ++ ys) (bitmap-kept i x.bitmap (x.bitmap == 0))
    ∙ (ap (λ ys. ys ++ bitmap_at i x) m
    ∙ (append_assoc old so_far (bitmap_at i x)
    ∙ ap (λ ys. old ++ ys) (ap (λ k. so_far ++ bitmap_at k x) (sym place) ∙ (sym (bitmaps-more 0 (take i chunks) x) ∙ ap (bitmaps_from 0) (sym more)))))))

-- which bitmaps those of numbered chunks are
pub record HasBitmap (f : ℕ → Chunk) (top : ℕ) (o : Owner) : Type 0 where
  pub number : ℕ
  pub low : number < top
  pub some : ((f number).bitmap == 0) ≡ false
  pub same : o ≡ owner (Bitmap number) (f number).bitmap 1

in-at : (f : ℕ → Chunk) (k : ℕ) → ((f k).bitmap == 0) ≡ false → In (owner (Bitmap k) (f k).bitmap 1) (bitmap_at k (f k))
in-at f k some = let o = owner (Bitmap k) (f k).bitmap 1 in subst (λ b. In o (if b then [] else o ∷ [])) (sym some) (inl refl)

pub in-bitmaps : (f : ℕ → Chunk) (a n k : ℕ) → a ≤ k → k < a + n → ((f k).bitmap == 0) ≡ false → In (owner (Bitmap k) (f k).bitmap 1) (bitmaps_from a (map f (range_with_len a n)))
in-bitmaps f a zero k up low some = absurd (omega arith)
in-bitmaps f a (suc n) k up low some =
    let o : Owner = owner (Bitmap k) (f k).bitmap 1 in
    let rest : List Owner = bitmaps_from (a + 1) (map f (range_with_len (a + 1) n)) in
    elim (cases_lt a k) as (λ _. In o (bitmap_at a (f a) ++ rest)) [
      | inl lt ↦ in-right o (bitmap_at a (f a)) rest (in-bitmaps f (a + 1) n k (omega arith) (omega arith) some)
      | inr le ↦ in-left o (bitmap_at a (f a)) rest (let e : k ≡ a = omega arith in subst (λ i. In o (bitmap_at i (f i))) e (in-at f k some))
    ]

from-at : (f : ℕ → Chunk) (a top : ℕ) (o : Owner) → a < top → In o (bitmap_at a (f a)) → HasBitmap f top o
from-at f a top o low h =
    let x : Owner = owner (Bitmap a) (f a).bitmap 1 in
    elim (test_or ((f a).bitmap == 0)) as (λ _. HasBitmap f top o) [
      | inl none ↦ absurd (subst (λ b. In o (if b then [] else x ∷ [])) none h)
      | inr some ↦
          let k : In o (x ∷ []) = subst (λ b. In o (if b then [] else x ∷ [])) some h in
          elim k as (λ _. HasBitmap f top o) [ inl e ↦ record { number = a; low = low; some = some; same = e } | inr q ↦ absurd q ]
    ]

pub from-bitmaps : (f : ℕ → Chunk) (a n top : ℕ) (o : Owner) → a + n ≡ top → In o (bitmaps_from a (map f (range_with_len a n))) → HasBitmap f top o
from-bitmaps f a zero top o e h = absurd h
from-bitmaps f a (suc n) top o e h =
    elim (in-append o (bitmap_at a (f a)) (bitmaps_from (a + 1) (map f (range_with_len (a + 1) n))) h) as (λ _. HasBitmap f top o) [
      | inl k ↦ from-at f a top o (omega (arith, e)) k
      | inr k ↦ from-bitmaps f (a + 1) n top o (omega (arith, e)) k
    ]
