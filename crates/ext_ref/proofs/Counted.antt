-- How many different numbers stand in a list.
use Rattle.std.specs.Prelude.{◌≡◌, ℕ, ◌+◌, ◌<◌, Bool, List, [], ◌∷◌, length, Contains, if◌then◌else◌}
use Rattle.std.specs.List.{dedup}
use Rattle.std.specs.List.Sorted.{IsPermutation, IsSorted}
use Rattle.std.specs.Ordering.{nat_cmp}
use Rattle.std.proofs.Common.{arith, add-one, ap, sym, subst, ◌∙◌, inl, inr, get_or, eqb}
use Rattle.std.proofs.lemmas.Grind.{common_steps}
use Rattle.std.proofs.lemmas.Cmp.{nat_cmp_total}
use Rattle.std.proofs.lemmas.List.{get_or_default}
use Rattle.std.proofs.lemmas.List.Sorted.{Contains-permutation, IsPermutation-sym}
use Rattle.std.proofs.lemmas.List.Kept.{Contains-dedup_nat, Contains-from_dedup, IsStrictlySortedBy-dedup}
use Rattle.std.proofs.lemmas.Map.Keys.{below_from_sorted}
use Rattle.std.proofs.lemmas.Option.{slice_get-get_or}
use Rattle.apfs_model.specs.Lists.{In, has, distinct}
use Rattle.apfs_model.specs.Apart.{Apart}
use Rattle.apfs_model.proofs.BoolTests.{test_or, clash}
use Rattle.apfs_model.proofs.Searches.{get-in, in-has, has-in}
use Rattle.apfs_model.proofs.Finite.{apart-same}

next-at : (m : ℕ) (ms : List ℕ) (j n : ℕ) → get_or ms j 0 ≡ n → get_or (m ∷ ms) (j + 1) 0 ≡ n
next-at m ms j n e = rw add-one e

-- a number of a list has a place there
pub in-place : (ns : List ℕ) (n : ℕ) → In n ns → (j : ℕ) × ((j < length ns) × (get_or ns j 0 ≡ n))
in-place [] n h = absurd h
in-place (m ∷ ms) n (inl e) = (0, (omega arith, sym e))
in-place (m ∷ ms) n (inr h) = let t = in-place ms n h in let low : t.0 < length ms = t.1.0 in (t.0 + 1, (omega arith, next-at m ms t.0 n t.1.1))

-- a number of a list, by its place and by the fact
contains-of : (ns : List ℕ) (n : ℕ) → In n ns → Contains ns n
contains-of ns n h = let t = in-place ns n h in (t.0, t.1.0, get_or_default ns t.0 n 0 t.1.0 ∙ t.1.1)

of-contains : (ns : List ℕ) (n : ℕ) → Contains ns n → In n ns
of-contains ns n (k, low, e) = subst (λ (m : ℕ). In m ns) e (get-in ns k (get_or ns k n) (slice_get-get_or ns k n low))

-- what is distinct in a list is in it, each once
pub into-distinct : (ns : List ℕ) (n : ℕ) → In n ns → In n (distinct ns)
into-distinct [] n h = absurd h
into-distinct (m ∷ ms) n h = elim (test_or (has ms m)) as (λ _. In n (distinct (m ∷ ms))) [
  | inl t ↦ subst (λ (b : Bool). In n (if b then distinct ms else m ∷ distinct ms)) (sym t) (elim h as (λ _. In n (distinct ms)) [ inl e ↦ into-distinct ms n (subst (λ (k : ℕ). In k ms) (sym e) (has-in m ms t)) | inr k ↦ into-distinct ms n k ])
  | inr f ↦ subst (λ (b : Bool). In n (if b then distinct ms else m ∷ distinct ms)) (sym f) (elim h as (λ _. In n (m ∷ distinct ms)) [ inl e ↦ inl e | inr k ↦ inr (into-distinct ms n k) ])
]

pub from-distinct : (ns : List ℕ) (n : ℕ) → In n (distinct ns) → In n ns
from-distinct [] n h = absurd h
from-distinct (m ∷ ms) n h = elim (test_or (has ms m)) as (λ _. In n (m ∷ ms)) [
  | inl t ↦ inr (from-distinct ms n (subst (λ (b : Bool). In n (if b then distinct ms else m ∷ distinct ms)) t h))
  | inr f ↦ let k : In n (m ∷ distinct ms) = subst (λ (b : Bool). In n (if b then distinct ms else m ∷ distinct ms)) f h in elim k as (λ _. In n (m ∷ ms)) [ inl e ↦ inl e | inr l ↦ inr (from-distinct ms n l) ]
]

pub apart-distinct : (ns : List ℕ) → Apart (distinct ns)
apart-distinct [] = tt
apart-distinct (m ∷ ms) = elim (test_or (has ms m)) as (λ _. Apart (distinct (m ∷ ms))) [
  | inl t ↦ subst (λ (b : Bool). Apart (if b then distinct ms else m ∷ distinct ms)) (sym t) (apart-distinct ms)
  | inr f ↦ subst (λ (b : Bool). Apart (if b then distinct ms else m ∷ distinct ms)) (sym f) ((λ h. clash (has ms m) (in-has m ms (from-distinct ms m h)) f), apart-distinct ms)
]

rise : (n : ℕ) (ns : List ℕ) (j : ℕ) → n < get_or (n ∷ ns) (j + 1) 0 → n < get_or ns j 0
rise n ns j h = rw add-one at h

rises : (n : ℕ) (ns : List ℕ) (i j : ℕ) → get_or (n ∷ ns) (i + 1) 0 < get_or (n ∷ ns) (j + 1) 0 → get_or ns i 0 < get_or ns j 0
rises n ns i j h = rw (add-one, add-one) at h

-- a list whose numbers rise has none twice
apart-rising : (ns : List ℕ) → ((i j : ℕ) → i < j → j < length ns → get_or ns i 0 < get_or ns j 0) → Apart ns
apart-rising [] up = tt
apart-rising (n ∷ ns) up = (
  λ h. (let t = in-place ns n h in let low : t.0 < length ns = t.1.0 in let less : n < get_or ns t.0 0 = rise n ns t.0 (up 0 (t.0 + 1) (omega arith) (omega (arith, low))) in let same : get_or ns t.0 0 ≡ n = t.1.1 in omega (arith, less, same)),
  apart-rising ns (λ i j less low. rises n ns i j (up (i + 1) (j + 1) (omega (arith, less)) (omega (arith, low)))),
)

-- a list sorted and without those that stand again has as many numbers as are distinct in it
pub count-distinct : (ns sorted once : List ℕ) → IsPermutation ns sorted → IsSorted nat_cmp sorted → once ≡ dedup eqb sorted → length once ≡ length (distinct ns)
count-distinct ns sorted once moves up e =
    let strict = IsStrictlySortedBy-dedup nat_cmp_total (λ x y. grind (arith, common_steps)) sorted up in
    let apart : Apart (dedup eqb sorted) = apart-rising (dedup eqb sorted) (λ i j less low. below_from_sorted (dedup eqb sorted) i j 0 strict less low) in
    let into : (n : ℕ) → In n (dedup eqb sorted) → In n ns = λ n h. of-contains ns n (Contains-permutation sorted ns n (IsPermutation-sym ns sorted moves) (Contains-from_dedup eqb sorted n (contains-of (dedup eqb sorted) n h))) in
    let back : (n : ℕ) → In n ns → In n (dedup eqb sorted) = λ n h. of-contains (dedup eqb sorted) n (Contains-dedup_nat sorted n (Contains-permutation ns sorted n moves (contains-of ns n h))) in
    ap length e ∙ apart-same (λ n. In n ns) (dedup eqb sorted) (distinct ns) apart (apart-distinct ns) (into, back) ((λ n h. from-distinct ns n h), (λ n h. into-distinct ns n h))
