-- Ranges that are claimed one after the other.
use Rattle.std.proofs.Common.{◌≡◌, ℕ, zero, suc, ◌+◌, ◌<◌, ◌≤◌, Bool, true, false, ◌||◌, List, [], ◌∷◌, ◌++◌, length, length-take-le, take, get_or, Some, inl, inr, refl, ap, ap₂, sym, ◌∙◌, subst, arith}
use Rattle.std.specs.Prelude.{slice_get}
use Rattle.std.specs.List.Sorted.{IsNonDecreasingBy}
use Rattle.std.proofs.lemmas.Bool.{cases_lt}
use Rattle.std.proofs.lemmas.List.{take_more, length_push}
use Rattle.std.proofs.lemmas.List.Folds.{list_any-append}
use Rattle.std.proofs.lemmas.Option.{slice_get_past, slice_get-get_or}
use Rattle.apfs_model.specs.Blocks.{is_in, is_within}
use Rattle.apfs_model.specs.Lists.{In, passes}
use Rattle.apfs_model.proofs.BoolTests.{test_or, clash, other-true, left-or, right-or}
use Rattle.apfs_model.proofs.Searches.{in-append}
use Rattle.own_ledger.specs.Held.{HeldBlocks, holds, lies_in, CanClaim, AddsRange, IsClaimFault}
use Rattle.own_ledger.specs.declared.held.ClaimFault.{ClaimFault}
use Rattle.own_ledger.specs.declared.held.ClaimFault.TheVariants as claims
use Rattle.own_ledger.proofs.MarkLemmas.{part-from, in-above, in-below, in-from}
use Rattle.reach_rules.specs.Settled.{has_block, is_held, is_held_at, AreApart}
use Rattle.own_settle.specs.Claimed.{AreClaimed, HasLeaving, HasTwice, IsRangeFault}
use Rattle.own_settle.specs.InOrder.{HaveBlocks, first_of}

-- ---- one range more

or-false : (b : Bool) → (b || false) ≡ b
or-false true = refl
or-false false = refl

pub held-more : (ranges : List (ℕ × ℕ)) (range : ℕ × ℕ) (block : ℕ) → is_held (ranges ++ range ∷ []) block ≡ (is_held ranges block || has_block block range)
held-more ranges range block = list_any-append (has_block block) ranges (range ∷ []) ∙ ap (λ b. is_held ranges block || b) (or-false (has_block block range))

get-before : {X : Type 0} (xs : List X) (x : X) (i : ℕ) → i < length xs → slice_get (xs ++ x ∷ []) i ≡ slice_get xs i
get-before [] x i low = absurd (omega arith)
get-before (y ∷ ys) x zero low = refl
get-before (y ∷ ys) x (suc i) low = get-before ys x i (omega arith)

get-last : {X : Type 0} (xs : List X) (x : X) (i : ℕ) → length xs ≡ i → slice_get (xs ++ x ∷ []) i ≡ Some x
get-last [] x zero same = refl
get-last [] x (suc i) same = absurd (omega arith)
get-last (y ∷ ys) x zero same = absurd (omega arith)
get-last (y ∷ ys) x (suc i) same = get-last ys x i (omega arith)

at-before : (ranges : List (ℕ × ℕ)) (range : ℕ × ℕ) (block i : ℕ) → i < length ranges → is_held_at (ranges ++ range ∷ []) block i ≡ is_held_at ranges block i
at-before ranges range block i low = ap (λ o. passes o (has_block block)) (get-before ranges range i low)

at-last : (ranges : List (ℕ × ℕ)) (range : ℕ × ℕ) (block i : ℕ) → length ranges ≡ i → is_held_at (ranges ++ range ∷ []) block i ≡ has_block block range
at-last ranges range block i same = ap (λ o. passes o (has_block block)) (get-last ranges range i same)

-- a place whose range has a block is one of the list
at-below : (ranges : List (ℕ × ℕ)) (block i : ℕ) → is_held_at ranges block i ≡ true → i < length ranges
at-below ranges block i h = elim (cases_lt i (length ranges)) [
  | inl low ↦ low
  | inr past ↦ absurd (clash (is_held_at ranges block i) h (ap (λ o. passes o (has_block block)) (slice_get_past ranges i past)))
]

-- a block that lies in a range lies in that of a place
pub place-of-held : (ranges : List (ℕ × ℕ)) (block : ℕ) → is_held ranges block ≡ true → (i : ℕ) × ((i < length ranges) × (is_held_at ranges block i ≡ true))
place-of-held [] block h = absurd (let q : false ≡ true = h in cc)
place-of-held (r ∷ rs) block h = elim (test_or (has_block block r)) as (λ _. (i : ℕ) × ((i < length (r ∷ rs)) × (is_held_at (r ∷ rs) block i ≡ true))) [
  | inl here ↦ (0, (omega arith, here))
  | inr out ↦ let t = place-of-held rs block (other-true (has_block block r) (is_held rs block) out h) in let low : t.0 < length rs = t.1.0 in (suc t.0, (omega arith, t.1.1))
]

pub held-of-place : (ranges : List (ℕ × ℕ)) (block i : ℕ) → is_held_at ranges block i ≡ true → is_held ranges block ≡ true
held-of-place [] block i h = absurd (let q : false ≡ true = h in cc)
held-of-place (r ∷ rs) block zero h = left-or (has_block block r) (is_held rs block) h
held-of-place (r ∷ rs) block (suc i) h = right-or (has_block block r) (is_held rs block) (held-of-place rs block i h)

-- where a range can be claimed after others, no block lies in two of them and it
apart-more : (ledger : HeldBlocks) (ranges : List (ℕ × ℕ)) (range : ℕ × ℕ) → ((block : ℕ) → holds ledger block ≡ is_held ranges block) → AreApart ranges → CanClaim ledger range.0 range.1 → AreApart (ranges ++ range ∷ [])
apart-more ledger ranges range held apart can block twice =
    let before = twice.before in
    elim (cases_lt twice.other (length ranges)) [
      | inl low ↦ apart block (record {
        one = twice.one;
        other = twice.other;
        before = before;
        one_has = sym (at-before ranges range block twice.one (omega arith)) ∙ twice.one_has;
        other_has = sym (at-before ranges range block twice.other low) ∙ twice.other_has;
      })
      | inr past ↦
          let long : length (ranges ++ range ∷ []) ≡ length ranges + 1 = length_push ranges range in
          let below = at-below (ranges ++ range ∷ []) block twice.other twice.other_has in
          let last : length ranges ≡ twice.other = omega arith in
          let here = sym (at-last ranges range block twice.other last) ∙ twice.other_has in
          let there = held-of-place ranges block twice.one (sym (at-before ranges range block twice.one (omega arith)) ∙ twice.one_has) in
          clash (holds ledger block) (held block ∙ there) (can.free block here)
    ]

-- the next range of a list is claimed
pub claimed-more : (old now new : HeldBlocks) (all : List (ℕ × ℕ)) (i : ℕ) (none : ℕ × ℕ) → i < length all → AreClaimed old now (take i all) →
    CanClaim now (get_or all i none).0 (get_or all i none).1 → AddsRange now new (get_or all i none).0 (get_or all i none).1 → AreClaimed old new (take (i + 1) all)
claimed-more old now new all i none low before can adds =
    let range = get_or all i none in
    let ranges = take i all in
    subst (λ rs. AreClaimed old new rs) (sym (take_more all i none low)) (record {
      same_first = adds.same_first ∙ before.same_first;
      same_blocks = adds.same_blocks ∙ before.same_blocks;
      held = λ block. adds.held block ∙ ap (λ b. b || has_block block range) (before.held block) ∙ sym (held-more ranges range block);
      inside = λ other one some. elim (in-append other ranges (range ∷ []) one) as (λ _. lies_in old other.0 other.1 ≡ true) [
        | inl earlier ↦ before.inside other earlier some
        | inr later ↦ elim later as (λ _. lies_in old other.0 other.1 ≡ true) [
          | inl same ↦
              subst (λ (r : ℕ × ℕ). lies_in old r.0 r.1 ≡ true) (sym same)
              (sym (ap₂ (λ a b. is_within range.0 range.1 a b) before.same_first before.same_blocks) ∙ can.inside (subst (λ (r : ℕ × ℕ). 0 < r.1) same some))
          | inr nowhere ↦ absurd nowhere
        ]
      ];
      apart = apart-more now ranges range before.held before.apart can;
    })

pub claimed-none : (ledger : HeldBlocks) (all : List (ℕ × ℕ)) → ((block : ℕ) → holds ledger block ≡ false) → AreClaimed ledger ledger []
claimed-none ledger all free = record {
  same_first = refl;
  same_blocks = refl;
  held = free;
  inside = λ range one some. absurd one;
  apart = λ block twice. clash (is_held_at [] block twice.one) twice.one_has refl;
}

-- ---- a claim that is refused

pub in-get_or : {X : Type 0} (xs : List X) (i : ℕ) (d : X) → i < length xs → In (get_or xs i d) xs
in-get_or [] i d low = absurd (omega arith)
in-get_or (x ∷ xs) zero d low = inl refl
in-get_or (x ∷ xs) (suc i) d low = inr (in-get_or xs i d (omega arith))

get-take : {X : Type 0} (xs : List X) (i j : ℕ) → j < i → slice_get (take i xs) j ≡ slice_get xs j
get-take [] zero j low = refl
get-take [] (suc i) j low = refl
get-take (x ∷ xs) zero j low = absurd (omega arith)
get-take (x ∷ xs) (suc i) zero low = refl
get-take (x ∷ xs) (suc i) (suc j) low = get-take xs i j (omega arith)

at-take : (all : List (ℕ × ℕ)) (block i j : ℕ) → j < i → i ≤ length all → is_held_at (take i all) block j ≡ true → is_held_at all block j ≡ true
at-take all block i j low inside h = ap (λ o. passes o (has_block block)) (sym (get-take all i j low)) ∙ h

pub at-get_or : (all : List (ℕ × ℕ)) (block i : ℕ) (none : ℕ × ℕ) → i < length all → has_block block (get_or all i none) ≡ true → is_held_at all block i ≡ true
at-get_or all block i none low h = ap (λ o. passes o (has_block block)) (slice_get-get_or all i none low) ∙ h

pub refused-range : (old now : HeldBlocks) (all : List (ℕ × ℕ)) (i : ℕ) (none : ℕ × ℕ) (fault : ClaimFault) → i < length all → AreClaimed old now (take i all) →
    IsClaimFault now (get_or all i none).0 (get_or all i none).1 fault → IsRangeFault old.first old.blocks all fault
refused-range old now all i none (claims.Outside block) low before outside = record {
  range = get_or all i none;
  one = in-get_or all i none low;
  some = outside.some;
  leaves = sym (ap₂ (λ a b. is_within (get_or all i none).0 (get_or all i none).1 a b) before.same_first before.same_blocks) ∙ outside.leaves;
  at = outside.at;
}
refused-range old now all i none (claims.Twice block) low before twice =
    let range = get_or all i none in
    let place = place-of-held (take i all) block (sym (before.held block) ∙ twice.held) in
    let long : length (take i all) ≡ i = length-take-le i all (omega arith) in
    let earlier = place.1.0 in
    let part = part-from range.0 range.1 now.first now.blocks twice.inside in
    let above = part.above in
    let below = part.below in
    let block_above = in-above block range.0 range.1 twice.one in
    let block_below = in-below block range.0 range.1 twice.one in
    record {
      low = sym (ap₂ (λ a b. is_in block a b) before.same_first before.same_blocks) ∙ in-from block now.first now.blocks (omega arith) (omega arith);
      twice = record {
        one = place.0;
        other = i;
        before = omega arith;
        one_has = at-take all block i place.0 (omega arith) (omega arith) place.1.1;
        other_has = at-get_or all block i none low twice.one;
      };
    }

-- ---- a range that isn't in order

pub leaving-at : (blocks : ℕ) (all : List (ℕ × ℕ)) (i : ℕ) → i < length all → HaveBlocks all → is_within (get_or all i (0, 0)).0 (get_or all i (0, 0)).1 0 blocks ≡ false → HasLeaving 0 blocks all (get_or all i (0, 0)).0
leaving-at blocks all i low have leaves =
    let one = in-get_or all i (0, 0) low in
    record { range = get_or all i (0, 0); one = one; some = have (get_or all i (0, 0)) one; leaves = leaves; at = refl }

-- it begins before the one before has ended
pub twice-at : (blocks end : ℕ) (all : List (ℕ × ℕ)) (i : ℕ) → i < length all → IsNonDecreasingBy first_of all → HaveBlocks all → end ≤ blocks → (i ≡ 0 → end ≡ 0) →
    ((k : ℕ) → k + 1 ≡ i → end ≡ (get_or all k (0, 0)).0 + (get_or all k (0, 0)).1) → (get_or all i (0, 0)).0 < end → HasTwice 0 blocks all (get_or all i (0, 0)).0
twice-at blocks end all zero low sorted have inside none last before = absurd (let z = none refl in let q : ⊥ = omega arith in q)
twice-at blocks end all (suc k) low sorted have inside none last before =
    let r = get_or all (suc k) (0, 0) in
    let p = get_or all k (0, 0) in
    let up : p.0 ≤ r.0 = sorted k (suc k) (0, 0) (omega arith) low in
    let ends : end ≡ p.0 + p.1 = last k (omega arith) in
    let some : 0 < r.1 = have r (in-get_or all (suc k) (0, 0) low) in
    record {
      low = in-from r.0 0 blocks (omega arith) (omega arith);
      twice = record {
        one = k;
        other = suc k;
        before = omega arith;
        one_has = at-get_or all r.0 k (0, 0) (omega arith) (in-from r.0 p.0 p.1 up (omega arith));
        other_has = at-get_or all r.0 (suc k) (0, 0) low (in-from r.0 r.0 r.1 (omega arith) (omega arith));
      };
    }
