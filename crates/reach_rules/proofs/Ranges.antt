-- Ranges that stand for owners.
use Rattle.std.proofs.Common.{◌≡◌, ℕ, zero, suc, ◌+◌, ◌<◌, ◌≤◌, Bool, true, false, ◌==◌, nat_le, List, [], ◌∷◌, map, slice_get, Option, option_map, Some, None, inl, inr, refl, ap, sym, ◌∙◌, subst, arith}
use Rattle.std.specs.List.{list_any}
use Rattle.std.proofs.lemmas.Bool.{cases_lt}
use Rattle.std.proofs.lemmas.Option.{slice_get-map}
use Rattle.apfs_model.specs.Lists.{In, passes}
use Rattle.reach_rules.specs.Owners.{Owner, covers}
use Rattle.apfs_model.specs.Apart.{Apart}
use Rattle.reach_rules.specs.Reached.{HasBlocks, range_of, AreRangesOf}
use Rattle.reach_rules.specs.Settled.{has_block, is_held, is_held_at, IsHeldTwice, AreApart}
use Rattle.apfs_model.proofs.BoolTests.{test_or, left-true, right-true, below-from, upto-from, equal-from, either-from}
use Rattle.apfs_model.proofs.Searches.{in-map, from-map, in-get, get-in, any-passes}

-- some item passes
any-in : {X : Type 0} (test : X → Bool) (xs : List X) (x : X) → In x xs → test x ≡ true → list_any test xs ≡ true
any-in test xs x h t = let i = in-get xs x h in any-passes test xs i.0 (ap (λ o. passes o test) i.1 ∙ t)

in-any : {X : Type 0} (test : X → Bool) (xs : List X) → list_any test xs ≡ true → (x : X) × (In x xs × (test x ≡ true))
in-any test [] e = absurd (let z : false ≡ true = e in let q : ⊥ = cc in q)
in-any {X} test (y ∷ ys) e = elim (either-from (test y) (list_any test ys) e) as (λ _. (x : X) × (In x (y ∷ ys) × (test x ≡ true))) [
  | inl t ↦ (y, (inl refl, t))
  | inr r ↦ let t = in-any test ys r in (t.0, (inr t.1.0, t.1.1))
]

-- a block of an owner makes it one of a block or more
covers-some : (a : Owner) (block : ℕ) → covers a block ≡ true → (a.blocks == 0) ≡ false
covers-some a block c = elim (test_or (a.blocks == 0)) as (λ _. (a.blocks == 0) ≡ false) [
  | inr f ↦ f
  | inl t ↦
      let z : a.blocks ≡ 0 = equal-from a.blocks 0 t in
      let low : a.first ≤ block = upto-from a.first block (left-true (nat_le a.first block) _ c) in
      let high : block < a.first + a.blocks = below-from block (a.first + a.blocks) (right-true (nat_le a.first block) _ c) in
      absurd (omega arith)
]

-- a block of an owner lies in a range, and a block in a range has an owner
pub owner-held : (IsOne : Owner → Type 0) (ranges : List (ℕ × ℕ)) → AreRangesOf IsOne ranges → (a : Owner) (block : ℕ) → IsOne a → covers a block ≡ true → is_held ranges block ≡ true
owner-held IsOne ranges r a block one c =
    let h = r.lists.1 a (record { one = one; some = covers-some a block c }) in
    subst (λ rs. is_held rs block ≡ true) (sym r.same) (any-in (has_block block) (map range_of r.owners) (range_of a) (in-map range_of r.owners a h) c)

pub record Has (IsOne : Owner → Type 0) (block : ℕ) : Type 0 where
  pub who : Owner
  pub one : IsOne who
  pub covers : covers who block ≡ true

pub held-owner : (IsOne : Owner → Type 0) (ranges : List (ℕ × ℕ)) → AreRangesOf IsOne ranges → (block : ℕ) → is_held ranges block ≡ true → Has IsOne block
held-owner IsOne ranges r block e =
    let t = in-any (has_block block) (map range_of r.owners) (subst (λ rs. is_held rs block ≡ true) r.same e) in
    let s = from-map range_of r.owners t.0 t.1.0 in
    record { who = s.0; one = (r.lists.0 s.0 s.1.0).one; covers = subst (λ (x : ℕ × ℕ). has_block block x ≡ true) s.1.1 t.1.1 }

-- the range of an owner of one block or more is there, and each range is that of one
pub owner-range : (IsOne : Owner → Type 0) (ranges : List (ℕ × ℕ)) → AreRangesOf IsOne ranges → (a : Owner) → IsOne a → (a.blocks == 0) ≡ false → In (range_of a) ranges
owner-range IsOne ranges r a one some = subst (λ rs. In (range_of a) rs) (sym r.same) (in-map range_of r.owners a (r.lists.1 a (record { one = one; some = some })))

pub range-owner : (IsOne : Owner → Type 0) (ranges : List (ℕ × ℕ)) → AreRangesOf IsOne ranges → (range : ℕ × ℕ) → In range ranges → (a : Owner) × (HasBlocks IsOne a × (range ≡ range_of a))
range-owner IsOne ranges r range h = let s = from-map range_of r.owners range (subst (λ rs. In range rs) r.same h) in (s.0, (r.lists.0 s.0 s.1.0, s.1.1))

-- of a list with no item twice, the items of two places differ
places-apart : {X : Type 0} (xs : List X) (a b : X) (i j : ℕ) → Apart xs → slice_get xs i ≡ Some a → slice_get xs j ≡ Some b → i < j → a ≡ b → ⊥
places-apart {X} [] a b i j p e f l s = let z : ◌≡◌ {A = Option X} None (Some a) = e in cc
places-apart xs a b i zero p e f l s = absurd (omega arith)
places-apart {X} (x ∷ xs) a b zero (suc j) p e f l s = let z : ◌≡◌ {A = Option X} (Some x) (Some a) = e in let q : x ≡ a = cc in p.0 (subst (λ w. In w xs) (sym (q ∙ s)) (get-in xs j b f))
places-apart (x ∷ xs) a b (suc i) (suc j) p e f l s = places-apart xs a b i j p.1 e f (omega arith) s

held-there : (owners : List Owner) (a : Owner) (block i : ℕ) → slice_get owners i ≡ Some a → covers a block ≡ true → is_held_at (map range_of owners) block i ≡ true
held-there owners a block i e c = subst (λ o. passes o (has_block block) ≡ true) (sym (slice_get-map range_of owners i ∙ ap (λ (o : Option Owner). option_map range_of o) e)) c

pub record At (owners : List Owner) (block i : ℕ) : Type 0 where
  pub who : Owner
  pub place : slice_get owners i ≡ Some who
  pub covers : covers who block ≡ true

from-held : (owners : List Owner) (block i : ℕ) → is_held_at (map range_of owners) block i ≡ true → At owners block i
from-held owners block i h =
    let go : (o : Option Owner) → slice_get owners i ≡ o → passes (option_map range_of o) (has_block block) ≡ true → At owners block i =
    λ o. elim o as (λ o. slice_get owners i ≡ o → passes (option_map range_of o) (has_block block) ≡ true → At owners block i) [
      | None ↦ λ e t. absurd (let z : false ≡ true = t in let q : ⊥ = cc in q)
      | Some a ↦ λ e t. record { who = a; place = e; covers = t }
    ] in
    go (slice_get owners i) refl (subst (λ o. passes o (has_block block) ≡ true) (slice_get-map range_of owners i) h)

-- where no block lies in two ranges, no two owners have one
pub apart-owners : (IsOne : Owner → Type 0) (ranges : List (ℕ × ℕ)) → AreRangesOf IsOne ranges → AreApart ranges → (a b : Owner) (block : ℕ) → IsOne a → IsOne b → covers a block ≡ true → covers b block ≡ true → a ≡ b
apart-owners IsOne ranges r apart a b block x y c d =
    let i = in-get r.owners a (r.lists.1 a (record { one = x; some = covers-some a block c })) in
    let j = in-get r.owners b (r.lists.1 b (record { one = y; some = covers-some b block d })) in
    let held : (o : Owner) (k : ℕ) → slice_get r.owners k ≡ Some o → covers o block ≡ true → is_held_at ranges block k ≡ true = λ o k e t. subst (λ rs. is_held_at rs block k ≡ true) (sym r.same) (held-there r.owners o block k e t) in
    elim (cases_lt i.0 j.0) as (λ _. a ≡ b) [
      | inl low ↦ absurd (apart block (record { one = i.0; other = j.0; before = low; one_has = held a i.0 i.1 c; other_has = held b j.0 j.1 d }))
      | inr high ↦ elim (cases_lt j.0 i.0) as (λ _. a ≡ b) [
        | inl low ↦ absurd (apart block (record { one = j.0; other = i.0; before = low; one_has = held b j.0 j.1 d; other_has = held a i.0 i.1 c }))
        | inr same ↦
            let k : i.0 ≡ j.0 = omega arith in
            let z : ◌≡◌ {A = Option Owner} (Some a) (Some b) = sym i.1 ∙ (ap (λ (n : ℕ). slice_get r.owners n) k ∙ j.1) in
            cc
      ]
    ]

-- where a block lies in two ranges, two owners have it
pub record Twice (IsOne : Owner → Type 0) (block : ℕ) : Type 0 where
  pub one : Owner
  pub other : Owner
  pub one_is : IsOne one
  pub other_is : IsOne other
  pub one_covers : covers one block ≡ true
  pub other_covers : covers other block ≡ true
  pub differ : one ≡ other → ⊥

pub twice-owners : (IsOne : Owner → Type 0) (ranges : List (ℕ × ℕ)) → AreRangesOf IsOne ranges → (block : ℕ) → IsHeldTwice ranges block → Twice IsOne block
twice-owners IsOne ranges r block t =
    let i = from-held r.owners block t.one (subst (λ rs. is_held_at rs block t.one ≡ true) r.same t.one_has) in
    let j = from-held r.owners block t.other (subst (λ rs. is_held_at rs block t.other ≡ true) r.same t.other_has) in
    record {
      one = i.who;
      other = j.who;
      one_is = (r.lists.0 i.who (get-in r.owners t.one i.who i.place)).one;
      other_is = (r.lists.0 j.who (get-in r.owners t.other j.who j.place)).one;
      one_covers = i.covers;
      other_covers = j.covers;
      differ = λ e. places-apart r.owners i.who j.who t.one t.other r.apart i.place j.place t.before e;
    }
