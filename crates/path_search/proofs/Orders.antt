-- A list by name is the one that a stable sort gives.
use Rattle.std.proofs.Common.{◌≡◌, ℕ, Bool, true, false, cond, List, [], ◌∷◌, ◌⊎◌, inl, inr, refl, ap, ap₂, sym, ◌∙◌, subst, arith, suc, ◌+◌, Ordering, Less, Equal, Greater}
use Rattle.std.specs.Prelude.{filter, not, slice_index_or}
use Rattle.std.specs.List.Sorted.{ties, IsSortedByKey}
use Rattle.std.specs.Ordering.{nat_cmp, is_gt, is_lt, ordering_reverse}
use Rattle.std.specs.Cmp.{IsTotalOrder}
use Rattle.std.specs.Cmp.Lexicographic.{slice_cmp, nat_list_cmp_total}
use Rattle.apfs_model.specs.Lists.{In}
use Rattle.path_search.specs.Order.{is_after, put_in, by_name}
use Rattle.apfs_model.proofs.BoolTests.{both-true, left-true, right-true, not-true, false-not, clash, never-true}
use Rattle.path_search.proofs.Tallies.{in-kept}

-- ---- the order
abbrev c : List ℕ → List ℕ → Ordering
c a b = slice_cmp nat_cmp a b

abbrev order : IsTotalOrder (slice_cmp nat_cmp)
order = nat_list_cmp_total

turned : (r : Ordering) → is_gt (ordering_reverse r) ≡ is_lt r
turned Less = refl
turned Equal = refl
turned Greater = refl

-- after, from the other side
gt-lt : (a b : List ℕ) → is_gt (c a b) ≡ is_lt (c b a)
gt-lt a b = ap is_gt (order.antisymm a b) ∙ turned (c b a)

not-both : (r : Ordering) → is_gt r ≡ true → is_lt r ≡ true → ⊥
not-both Less e f = absurd cc
not-both Equal e f = absurd cc
not-both Greater e f = absurd cc

never-both : (a b : List ℕ) → is_gt (c a b) ≡ true → is_gt (c b a) ≡ false
never-both a b e = never-true (is_gt (c b a)) (λ f. not-both (c a b) e (sym (gt-lt b a) ∙ f))

up-to : (a b d : List ℕ) → is_gt (c a b) ≡ false → is_gt (c b d) ≡ false → is_gt (c a d) ≡ false
up-to a b d e f =
    let go : (r s : Ordering) → c a b ≡ r → c b d ≡ s → is_gt r ≡ false → is_gt s ≡ false → is_gt (c a d) ≡ false = λ r. elim r as (λ r. (s : Ordering) → c a b ≡ r → c b d ≡ s → is_gt r ≡ false → is_gt s ≡ false → is_gt (c a d) ≡ false) [
      | Greater ↦ λ s p q g h. absurd (clash (is_gt Greater) refl g)
      | Equal ↦ λ s p q g h. ap is_gt (order.congr a b d p) ∙ (ap is_gt q ∙ h)
      | Less ↦ λ s. elim s as (λ s. c a b ≡ Less → c b d ≡ s → is_gt Less ≡ false → is_gt s ≡ false → is_gt (c a d) ≡ false) [
        | Greater ↦ λ p q g h. absurd (clash (is_gt Greater) refl h)
        | Less ↦ λ p q g h. ap is_gt (order.trans a b d p q)
        | Equal ↦ λ p q g h.
            let back : c b a ≡ Greater = order.antisymm b a ∙ ap ordering_reverse p in
            let from : c d a ≡ Greater = sym (order.congr b d a q) ∙ back in
            ap is_gt (order.antisymm a d ∙ ap ordering_reverse from)
      ]
    ] in
    go (c a b) (c b d) refl refl e f

-- ---- lists that rise
module _ {X : Type 0} (name : X → List ℕ) where
  -- no item comes after one that follows it
  abbrev pub Rises : List X → Type 0
  Rises [] = Unit {0}
  Rises (x ∷ xs) = ((y : X) → In y xs → is_after name x y ≡ false) × Rises xs

  -- an item comes before another
  abbrev pub before : X → X → Bool
  before x y = is_lt (slice_cmp nat_cmp (name x) (name y))

  -- two items of one name
  abbrev alike : X → X → Bool
  alike x y = ties before x y

  alike-from : (x y : X) → is_after name x y ≡ false → is_after name y x ≡ false → alike x y ≡ true
  alike-from x y e f = both-true (not (before x y)) (not (before y x)) (false-not (before x y) (sym (gt-lt (name y) (name x)) ∙ f)) (false-not (before y x) (sym (gt-lt (name x) (name y)) ∙ e))

  alike-right : (x y : X) → alike x y ≡ true → is_after name x y ≡ false
  alike-right x y e = gt-lt (name x) (name y) ∙ not-true (before y x) (right-true (not (before x y)) (not (before y x)) e)

  alike-left : (x y : X) → alike x y ≡ true → is_after name y x ≡ false
  alike-left x y e = gt-lt (name y) (name x) ∙ not-true (before x y) (left-true (not (before x y)) (not (before y x)) e)

  refl-false : (a : List ℕ) → is_gt (c a a) ≡ false
  refl-false a = never-true (is_gt (c a a)) (λ e. clash (is_gt (c a a)) e (never-both a a e))

  alike-self : (x : X) → alike x x ≡ true
  alike-self x = alike-from x x (refl-false (name x)) (refl-false (name x))

  in-put : (x : X) (xs : List X) (z : X) → In z (put_in name x xs) → (z ≡ x) ⊎ In z xs
  in-put x [] z (inl e) = inl e
  in-put x [] z (inr h) = absurd h
  in-put x (y ∷ ys) z h =
      let go : (b : Bool) → In z (cond b (y ∷ put_in name x ys) (x ∷ y ∷ ys)) → (z ≡ x) ⊎ In z (y ∷ ys) = λ b. elim b as (λ b. In z (cond b (y ∷ put_in name x ys) (x ∷ y ∷ ys)) → (z ≡ x) ⊎ In z (y ∷ ys)) [
        | true ↦ λ k. elim k as (λ _. (z ≡ x) ⊎ In z (y ∷ ys)) [
          | inl e ↦ inr (inl e)
          | inr m ↦ elim (in-put x ys z m) as (λ _. (z ≡ x) ⊎ In z (y ∷ ys)) [ inl e ↦ inl e | inr n ↦ inr (inr n) ]
        ]
        | false ↦ λ k. k
      ] in
      go (is_after name x y) h

  put-rises : (x : X) (xs : List X) → Rises xs → Rises (put_in name x xs)
  put-rises x [] r = (λ y h. absurd h, tt)
  put-rises x (y ∷ ys) r =
      let go : (b : Bool) → is_after name x y ≡ b → Rises (cond b (y ∷ put_in name x ys) (x ∷ y ∷ ys)) = λ b. elim b as (λ b. is_after name x y ≡ b → Rises (cond b (y ∷ put_in name x ys) (x ∷ y ∷ ys))) [
        | true ↦ λ e. (
          λ z h. elim (in-put x ys z h) as (λ _. is_after name y z ≡ false) [
            | inl s ↦ subst (λ (w : X). is_after name y w ≡ false) (sym s) (never-both (name x) (name y) e)
            | inr m ↦ r.0 z m
          ],
          put-rises x ys r.1,
        )
        | false ↦ λ e. (
          λ z h. elim h as (λ _. is_after name x z ≡ false) [
            | inl s ↦ subst (λ (w : X). is_after name x w ≡ false) (sym s) e
            | inr m ↦ up-to (name x) (name y) (name z) e (r.0 z m)
          ],
          r,
        )
      ] in
      go (is_after name x y) refl

  -- a list by name rises
  pub by_name_rises : (xs : List X) → Rises (by_name name xs)
  by_name_rises [] = tt
  by_name_rises (x ∷ xs) = put-rises x (by_name name xs) (by_name_rises xs)

  -- two items change places in a filter where not both pass
  swapped : (t : X → Bool) (x y : X) (ys : List X) → (t x ≡ true → t y ≡ true → ⊥) → filter t (y ∷ x ∷ ys) ≡ filter t (x ∷ y ∷ ys)
  swapped t x y ys n =
      let rest : List X = filter t ys in
      let go : (a b : Bool) → (a ≡ true → b ≡ true → ⊥) → cond b (y ∷ cond a (x ∷ rest) rest) (cond a (x ∷ rest) rest) ≡ cond a (x ∷ cond b (y ∷ rest) rest) (cond b (y ∷ rest) rest) = λ a. elim a as (λ a. (b : Bool) → (a ≡ true → b ≡ true → ⊥) → cond b (y ∷ cond a (x ∷ rest) rest) (cond a (x ∷ rest) rest) ≡ cond a (x ∷ cond b (y ∷ rest) rest) (cond b (y ∷ rest) rest)) [
        | true ↦ λ b. elim b as (λ b. (true ≡ true → b ≡ true → ⊥) → cond b (y ∷ x ∷ rest) (x ∷ rest) ≡ x ∷ cond b (y ∷ rest) rest) [ true ↦ λ h. absurd (h refl refl) | false ↦ λ h. refl ]
        | false ↦ λ b h. refl
      ] in
      go (t x) (t y) n

  put-stable : (z x : X) (xs : List X) → filter (alike z) (put_in name x xs) ≡ filter (alike z) (x ∷ xs)
  put-stable z x [] = refl
  put-stable z x (y ∷ ys) =
      let t : X → Bool = alike z in
      let rest = put-stable z x ys in
      let go : (b : Bool) → is_after name x y ≡ b → filter t (cond b (y ∷ put_in name x ys) (x ∷ y ∷ ys)) ≡ filter t (x ∷ y ∷ ys) = λ b. elim b as (λ b. is_after name x y ≡ b → filter t (cond b (y ∷ put_in name x ys) (x ∷ y ∷ ys)) ≡ filter t (x ∷ y ∷ ys)) [
        | true ↦ λ e.
            ap (λ (l : List X). cond (t y) (y ∷ l) l) rest
            ∙ swapped t x y ys (λ f g. clash (is_after name x y) e (up-to (name x) (name z) (name y) (alike-left z x f) (alike-right z y g)))
        | false ↦ λ e. refl
      ] in
      go (is_after name x y) refl

  -- in a list by name the items of one name stand as they were
  pub by_name_stable : (z : X) (xs : List X) → filter (alike z) (by_name name xs) ≡ filter (alike z) xs
  by_name_stable z [] = refl
  by_name_stable z (x ∷ xs) = put-stable z x (by_name name xs) ∙ ap (λ (l : List X). cond (alike z x) (x ∷ l) l) (by_name_stable z xs)

  head-same : (x y : X) (xs ys : List X) → ◌≡◌ {A = List X} (x ∷ xs) (y ∷ ys) → x ≡ y
  head-same x y xs ys e = cc

  tail-same : (x y : X) (xs ys : List X) → ◌≡◌ {A = List X} (x ∷ xs) (y ∷ ys) → xs ≡ ys
  tail-same x y xs ys e = cc

  nil-cons : (x : X) (xs : List X) → ◌≡◌ {A = List X} [] (x ∷ xs) → ⊥
  nil-cons x xs e = absurd cc

  kept-head : (t : X → Bool) (x : X) (xs : List X) → t x ≡ true → filter t (x ∷ xs) ≡ x ∷ filter t xs
  kept-head t x xs e = ap (λ b. cond b (x ∷ filter t xs) (filter t xs)) e

  -- the first item of a list that rises comes after none of those of another with the same items of each name
  first-of : (x y : X) (xs ys : List X) → Rises (y ∷ ys) → filter (alike x) (x ∷ xs) ≡ filter (alike x) (y ∷ ys) → is_after name y x ≡ false
  first-of x y xs ys r e =
      let here : In x (filter (alike x) (y ∷ ys)) = subst (λ (l : List X). In x l) (sym (kept-head (alike x) x xs (alike-self x)) ∙ e) (inl refl) in
      elim (in-kept (alike x) (y ∷ ys) x here).0 as (λ _. is_after name y x ≡ false) [
        | inl s ↦ subst (λ (w : X). is_after name y w ≡ false) (sym s) (refl-false (name y))
        | inr m ↦ r.0 x m
      ]

  same-rest : (t : X → Bool) (x : X) (xs ys : List X) → filter t (x ∷ xs) ≡ filter t (x ∷ ys) → filter t xs ≡ filter t ys
  same-rest t x xs ys e =
      let go : (b : Bool) → cond b (x ∷ filter t xs) (filter t xs) ≡ cond b (x ∷ filter t ys) (filter t ys) → filter t xs ≡ filter t ys = λ b. elim b as (λ b. cond b (x ∷ filter t xs) (filter t xs) ≡ cond b (x ∷ filter t ys) (filter t ys) → filter t xs ≡ filter t ys) [
        | true ↦ λ h. tail-same x x (filter t xs) (filter t ys) h
        | false ↦ λ h. h
      ] in
      go (t x) e

  -- two lists that rise and have the same items of each name, in the same order, are one
  same-list : (xs ys : List X) → Rises xs → Rises ys → ((z : X) → filter (alike z) xs ≡ filter (alike z) ys) → xs ≡ ys
  same-list [] [] r s e = refl
  same-list [] (y ∷ ys) r s e = absurd (nil-cons y (filter (alike y) ys) (e y ∙ kept-head (alike y) y ys (alike-self y)))
  same-list (x ∷ xs) [] r s e = absurd (nil-cons x (filter (alike x) xs) (sym (e x) ∙ kept-head (alike x) x xs (alike-self x)))
  same-list (x ∷ xs) (y ∷ ys) r s e =
      let after_x : is_after name y x ≡ false = first-of x y xs ys s (e x) in
      let after_y : is_after name x y ≡ false = first-of y x ys xs r (sym (e y)) in
      let same : x ≡ y = head-same x y (filter (alike x) xs) (filter (alike x) ys) (sym (kept-head (alike x) x xs (alike-self x)) ∙ (e x ∙ kept-head (alike x) y ys (alike-from x y after_y after_x))) in
      let rest : (z : X) → filter (alike z) xs ≡ filter (alike z) ys = λ z. same-rest (alike z) x xs ys (e z ∙ ap (λ (w : X). filter (alike z) (w ∷ ys)) (sym same)) in
      ap₂ (λ (w : X) (l : List X). w ∷ l) same (same-list xs ys r.1 s.1 rest)

  -- what a stable sort gives is the list by name: it rises, and the items of one name stand as they were
  pub sorted_is_by_name : (xs ys : List X) → Rises ys → ((z : X) → filter (ties before z) ys ≡ filter (ties before z) xs) → ys ≡ by_name name xs
  sorted_is_by_name xs ys rises stable = same-list ys (by_name name xs) rises (by_name_rises xs) (λ z. stable z ∙ sym (by_name_stable z xs))

  -- what std's sorts say of neighbours says that a list rises
  falls-no : (x : X) (y : X) (ys : List X) → is_after name x y ≡ false → Rises (y ∷ ys) → (z : X) → In z (y ∷ ys) → is_after name x z ≡ false
  falls-no x y ys e r z (inl s) = subst (λ (w : X). is_after name x w ≡ false) (sym s) e
  falls-no x y ys e r z (inr m) = up-to (name x) (name y) (name z) e (r.0 z m)

  one-on : (y : X) (ys : List X) (k : ℕ) (d : X) → slice_index_or (y ∷ ys) (suc k + 1) d ≡ slice_index_or ys (k + 1) d
  one-on y ys k d = let e : suc k + 1 ≡ suc (k + 1) = omega arith in ap (λ n. slice_index_or (y ∷ ys) n d) e

  pub sorted_rises : (ys : List X) → IsSortedByKey name (slice_cmp nat_cmp) ys → Rises ys
  sorted_rises [] s = tt
  sorted_rises (y ∷ []) s = (λ z h. absurd h, tt)
  sorted_rises (y ∷ z ∷ zs) s =
      let first : before z y ≡ false = s 0 y (omega arith) (omega arith) in
      let rest : Rises (z ∷ zs) = sorted_rises (z ∷ zs) (λ k d low high. ap (λ (w : X). before w (slice_index_or (z ∷ zs) k d)) (sym (one-on y (z ∷ zs) k d)) ∙ s (suc k) d (omega arith) (omega arith)) in
      (falls-no y z zs (gt-lt (name y) (name z) ∙ first) rest, rest)
