-- Ranges in another order.
use Rattle.std.proofs.Common.{◌≡◌, ℕ, zero, suc, ◌+◌, ◌<◌, ◌≤◌, Bool, true, false, cond, List, [], ◌∷◌, inl, inr, refl, ap, ◌∙◌, arith}
use Rattle.std.specs.List.Sorted.{IsPermutation}
use Rattle.std.proofs.lemmas.List.Sorted.{Contains-permutation, IsPermutation-sym, list_any-IsPermutation, sum_by-IsPermutation}
use Rattle.id_lists.proofs.Repeats.{contained, listed}
use Rattle.apfs_model.specs.Lists.{In}
use Rattle.apfs_model.proofs.BoolTests.{test_or}
use Rattle.own_ledger.specs.declared.held.ClaimFault.{ClaimFault}
use Rattle.own_ledger.specs.declared.held.ClaimFault.TheVariants as claims
use Rattle.reach_rules.specs.Settled.{has_block, is_held, is_held_at, IsHeldTwice, AreApart}
use Rattle.own_settle.specs.Claimed.{IsRangeFault}
use Rattle.own_settle.specs.InOrder.{AreInOrder}
use Rattle.own_settle.proofs.OrderLemmas.{times_held, times-cons, times-once}

pub in-moved : (xs ys : List (ℕ × ℕ)) → IsPermutation xs ys → (range : ℕ × ℕ) → In range xs → In range ys
in-moved xs ys moved range one = listed ys range (Contains-permutation xs ys range moved (contained xs range one))

pub held-moved : (xs ys : List (ℕ × ℕ)) → IsPermutation xs ys → (block : ℕ) → is_held xs block ≡ is_held ys block
held-moved xs ys moved block = list_any-IsPermutation (has_block block) xs ys moved

times-moved : (xs ys : List (ℕ × ℕ)) → IsPermutation xs ys → (block : ℕ) → times_held ys block ≡ times_held xs block
unfolding times_held
times-moved xs ys moved block = sum_by-IsPermutation (λ (range : ℕ × ℕ). cond (has_block block range) 1 0) xs ys moved

-- ---- a block that lies in two

-- one of a block's ranges more
times-more : (r : ℕ × ℕ) (rs : List (ℕ × ℕ)) (block : ℕ) → times_held rs block ≤ times_held (r ∷ rs) block
times-more r rs block = elim (test_or (has_block block r)) [
  | inl one ↦ omega (arith, times-cons r rs block ∙ ap (λ (b : Bool). cond b 1 0 + times_held rs block) one)
  | inr out ↦ omega (arith, times-cons r rs block ∙ ap (λ (b : Bool). cond b 1 0 + times_held rs block) out)
]

times-here : (r : ℕ × ℕ) (rs : List (ℕ × ℕ)) (block : ℕ) → has_block block r ≡ true → times_held (r ∷ rs) block ≡ 1 + times_held rs block
times-here r rs block one = times-cons r rs block ∙ ap (λ (b : Bool). cond b 1 0 + times_held rs block) one

times-there : (r : ℕ × ℕ) (rs : List (ℕ × ℕ)) (block : ℕ) → has_block block r ≡ false → times_held (r ∷ rs) block ≡ times_held rs block
times-there r rs block out = times-cons r rs block ∙ ap (λ (b : Bool). cond b 1 0 + times_held rs block) out ∙ omega arith

at-times : (rs : List (ℕ × ℕ)) (block i : ℕ) → is_held_at rs block i ≡ true → 1 ≤ times_held rs block
at-times [] block i h = absurd (let q : false ≡ true = h in cc)
at-times (r ∷ rs) block zero h = omega (arith, times-here r rs block h)
at-times (r ∷ rs) block (suc i) h = omega (arith, times-more r rs block, at-times rs block i h)

two-times : (rs : List (ℕ × ℕ)) (block i j : ℕ) → i < j → is_held_at rs block i ≡ true → is_held_at rs block j ≡ true → 2 ≤ times_held rs block
two-times [] block i j before here there = absurd (let q : false ≡ true = here in cc)
two-times (r ∷ rs) block zero zero before here there = absurd (omega arith)
two-times (r ∷ rs) block zero (suc j) before here there = omega (arith, times-here r rs block here, at-times rs block j there)
two-times (r ∷ rs) block (suc i) zero before here there = absurd (omega arith)
two-times (r ∷ rs) block (suc i) (suc j) before here there = omega (arith, times-more r rs block, two-times rs block i j (omega arith) here there)

none-held : (block : ℕ) → times_held [] block ≡ 0
unfolding times_held
none-held block = refl

times-at : (rs : List (ℕ × ℕ)) (block : ℕ) → 1 ≤ times_held rs block → (i : ℕ) × (is_held_at rs block i ≡ true)
times-at [] block some = absurd (omega (arith, some, none-held block))
times-at (r ∷ rs) block some = elim (test_or (has_block block r)) as (λ _. (i : ℕ) × (is_held_at (r ∷ rs) block i ≡ true)) [
  | inl one ↦ (0, one)
  | inr out ↦ let t = times-at rs block (omega (arith, some, times-there r rs block out)) in (suc t.0, t.1)
]

times-twice : (rs : List (ℕ × ℕ)) (block : ℕ) → 2 ≤ times_held rs block → IsHeldTwice rs block
times-twice [] block two = absurd (omega (arith, two, none-held block))
times-twice (r ∷ rs) block two = elim (test_or (has_block block r)) as (λ _. IsHeldTwice (r ∷ rs) block) [
  | inl one ↦ let t = times-at rs block (omega (arith, two, times-here r rs block one)) in record { one = 0; other = suc t.0; before = omega arith; one_has = one; other_has = t.1 }
  | inr out ↦
      let t = times-twice rs block (omega (arith, two, times-there r rs block out)) in
      let before = t.before in
      record { one = suc t.one; other = suc t.other; before = omega arith; one_has = t.one_has; other_has = t.other_has }
]

-- ---- what is said of ranges in order is said of the ranges

pub apart-moved : (to : ℕ) (ranges sorted : List (ℕ × ℕ)) → IsPermutation ranges sorted → AreInOrder 0 to sorted → AreApart ranges
apart-moved to ranges sorted moved order block twice =
    let two = two-times ranges block twice.one twice.other twice.before twice.one_has twice.other_has in
    let q : ⊥ = omega (arith, two, times-once 0 to sorted block order, times-moved ranges sorted moved block) in
    q

pub fault-moved : (first blocks : ℕ) (ranges sorted : List (ℕ × ℕ)) (fault : ClaimFault) → IsPermutation ranges sorted → IsRangeFault first blocks sorted fault → IsRangeFault first blocks ranges fault
fault-moved first blocks ranges sorted (claims.Outside block) moved h = record { range = h.range; one = in-moved sorted ranges (IsPermutation-sym ranges sorted moved) h.range h.one; some = h.some; leaves = h.leaves; at = h.at }
fault-moved first blocks ranges sorted (claims.Twice block) moved h =
    let t = h.twice in
    let two = two-times sorted block t.one t.other t.before t.one_has t.other_has in
    record { low = h.low; twice = times-twice ranges block (omega (arith, two, times-moved ranges sorted moved block)) }
