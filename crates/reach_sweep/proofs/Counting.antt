-- How often a thing stands in a list.
use Rattle.std.proofs.Common.{◌≡◌, ℕ, ◌+◌, ◌≤◌, Bool, true, false, cond, List, [], ◌∷◌, ◌++◌, inl, inr, refl, ap, ◌∙◌, subst, arith}
use Rattle.std.specs.List.{flat_map, count_by}
use Rattle.std.proofs.lemmas.List.Sums.{sum_by-cons, sum_by-append}
use Rattle.apfs_model.specs.Apart.{Apart}
use Rattle.apfs_model.specs.Lists.{In}
use Rattle.apfs_model.proofs.BoolTests.{clash, never-true, test_or}
use Rattle.apfs_model.proofs.Finite.{Either}

-- whether a thing is another
abbrev pub is_it : {X : Type 0} → ((a b : X) → Either (a ≡ b)) → X → X → Bool
is_it eq a b = elim (eq a b) as (λ _. Bool) [ inl e ↦ true | inr d ↦ false ]

pub it-is : {X : Type 0} (eq : (a b : X) → Either (a ≡ b)) (a b : X) → is_it eq a b ≡ true → a ≡ b
it-is {X} eq a b =
    let go : (o : Either (a ≡ b)) → (elim o as (λ _. Bool) [ inl e ↦ true | inr d ↦ false ]) ≡ true → a ≡ b = λ o. elim o as (λ o. (elim o as (λ _. Bool) [ inl e ↦ true | inr d ↦ false ]) ≡ true → a ≡ b) [
      | inl e ↦ λ t. e
      | inr d ↦ λ t. clash false t refl
    ] in
    go (eq a b)

pub is-it : {X : Type 0} (eq : (a b : X) → Either (a ≡ b)) (a b : X) → a ≡ b → is_it eq a b ≡ true
is-it {X} eq a b same =
    let go : (o : Either (a ≡ b)) → (elim o as (λ _. Bool) [ inl e ↦ true | inr d ↦ false ]) ≡ true = λ o. elim o as (λ o. (elim o as (λ _. Bool) [ inl e ↦ true | inr d ↦ false ]) ≡ true) [
      | inl e ↦ refl
      | inr d ↦ absurd (d same)
    ] in
    go (eq a b)

-- how often it stands in a list
abbrev pub times : {X : Type 0} → ((a b : X) → Either (a ≡ b)) → X → List X → ℕ
times eq a xs = count_by (is_it eq a) xs

times-cons : {X : Type 0} (eq : (a b : X) → Either (a ≡ b)) (a x : X) (xs : List X) → times eq a (x ∷ xs) ≡ cond (is_it eq a x) 1 0 + times eq a xs
times-cons eq a x xs = sum_by-cons (λ y. cond (is_it eq a y) 1 0) x xs

times-yes : {X : Type 0} (eq : (a b : X) → Either (a ≡ b)) (a x : X) (xs : List X) → is_it eq a x ≡ true → times eq a (x ∷ xs) ≡ 1 + times eq a xs
times-yes eq a x xs e = times-cons eq a x xs ∙ ap (λ b. cond b 1 0 + times eq a xs) e

times-no : {X : Type 0} (eq : (a b : X) → Either (a ≡ b)) (a x : X) (xs : List X) → is_it eq a x ≡ false → times eq a (x ∷ xs) ≡ 0 + times eq a xs
times-no eq a x xs e = times-cons eq a x xs ∙ ap (λ b. cond b 1 0 + times eq a xs) e

times-append : {X : Type 0} (eq : (a b : X) → Either (a ≡ b)) (a : X) (xs ys : List X) → times eq a (xs ++ ys) ≡ times eq a xs + times eq a ys
times-append eq a xs ys = sum_by-append (λ y. cond (is_it eq a y) 1 0) xs ys

-- what isn't in a list stands in it no time
pub times-none : {X : Type 0} (eq : (a b : X) → Either (a ≡ b)) (a : X) (xs : List X) → (In a xs → ⊥) → times eq a xs ≡ 0
times-none eq a [] out = refl
times-none eq a (x ∷ xs) out =
    let here : is_it eq a x ≡ false = never-true (is_it eq a x) (λ t. out (inl (it-is eq a x t))) in
    let step : times eq a (x ∷ xs) ≡ 0 + times eq a xs = times-no eq a x xs here in
    let more : times eq a xs ≡ 0 = times-none eq a xs (λ h. out (inr h)) in
    omega arith

-- what is in it stands in it once or more
pub times-some : {X : Type 0} (eq : (a b : X) → Either (a ≡ b)) (a : X) (xs : List X) → In a xs → 1 ≤ times eq a xs
times-some eq a [] h = absurd h
times-some eq a (x ∷ xs) (inl e) = let step : times eq a (x ∷ xs) ≡ 1 + times eq a xs = times-yes eq a x xs (is-it eq a x e) in omega arith
times-some eq a (x ∷ xs) (inr h) =
    let more : 1 ≤ times eq a xs = times-some eq a xs h in
    elim (test_or (is_it eq a x)) as (λ _. 1 ≤ times eq a (x ∷ xs)) [
      | inl t ↦ let step : times eq a (x ∷ xs) ≡ 1 + times eq a xs = times-yes eq a x xs t in omega arith
      | inr f ↦ let step : times eq a (x ∷ xs) ≡ 0 + times eq a xs = times-no eq a x xs f in omega arith
    ]

-- in a list in which nothing stands twice it stands once at most
pub times-once : {X : Type 0} (eq : (a b : X) → Either (a ≡ b)) (a : X) (xs : List X) → Apart xs → times eq a xs ≤ 1
times-once eq a [] apart = let none : times eq a [] ≡ 0 = refl in omega arith
times-once eq a (x ∷ xs) apart = elim (test_or (is_it eq a x)) as (λ _. times eq a (x ∷ xs) ≤ 1) [
  | inl t ↦
      let same : a ≡ x = it-is eq a x t in
      let none : times eq a xs ≡ 0 = times-none eq a xs (λ h. apart.0 (subst (λ y. In y xs) same h)) in
      let step : times eq a (x ∷ xs) ≡ 1 + times eq a xs = times-yes eq a x xs t in
      omega arith
  | inr f ↦
      let more : times eq a xs ≤ 1 = times-once eq a xs apart.1 in
      let step : times eq a (x ∷ xs) ≡ 0 + times eq a xs = times-no eq a x xs f in
      omega arith
]

-- a list in which each thing stands once has nothing twice
pub apart-times : {X : Type 0} (eq : (a b : X) → Either (a ≡ b)) (xs : List X) → ((a : X) → In a xs → times eq a xs ≤ 1) → Apart xs
apart-times eq [] few = tt
apart-times {X} eq (x ∷ xs) few =
    let fewer : (a : X) → In a xs → times eq a xs ≤ 1 = λ a h.
    let all : times eq a (x ∷ xs) ≤ 1 = few a (inr h) in
    elim (test_or (is_it eq a x)) as (λ _. times eq a xs ≤ 1) [
      | inl t ↦ let step : times eq a (x ∷ xs) ≡ 1 + times eq a xs = times-yes eq a x xs t in omega arith
      | inr f ↦ let step : times eq a (x ∷ xs) ≡ 0 + times eq a xs = times-no eq a x xs f in omega arith
    ] in (
      (λ h.
          let all : times eq x (x ∷ xs) ≤ 1 = few x (inl refl) in
          let step : times eq x (x ∷ xs) ≡ 1 + times eq x xs = times-yes eq x x xs (is-it eq x x refl) in
          let more : 1 ≤ times eq x xs = times-some eq x xs h in
          absurd (omega arith)),
      apart-times eq xs fewer,
    )

-- where one thing alone of some gives another, and once, the other is given no more often than the one stands there
pub times-flat : {X : Type 0} (eq : (a b : X) → Either (a ≡ b)) (f : X → List X) (a b : X) (xs : List X) → ((x : X) → In x xs → Apart (f x)) → ((x : X) → In x xs → In b (f x) → a ≡ x) → times eq b (flat_map f xs) ≤ times eq a xs
times-flat eq f a b [] apart one = let none : times eq b [] ≡ 0 = refl in omega arith
times-flat eq f a b (x ∷ xs) apart one =
    let more : times eq b (flat_map f xs) ≤ times eq a xs = times-flat eq f a b xs (λ y h. apart y (inr h)) (λ y h. one y (inr h)) in
    let all : times eq b (flat_map f (x ∷ xs)) ≡ times eq b (f x) + times eq b (flat_map f xs) = times-append eq b (f x) (flat_map f xs) in
    elim (test_or (is_it eq a x)) as (λ _. times eq b (flat_map f (x ∷ xs)) ≤ times eq a (x ∷ xs)) [
      | inl t ↦
          let few : times eq b (f x) ≤ 1 = times-once eq b (f x) (apart x (inl refl)) in
          let step : times eq a (x ∷ xs) ≡ 1 + times eq a xs = times-yes eq a x xs t in
          omega arith
      | inr n ↦
          let none : times eq b (f x) ≡ 0 = times-none eq b (f x) (λ h. clash (is_it eq a x) (is-it eq a x (one x (inl refl) h)) n) in
          let step : times eq a (x ∷ xs) ≡ 0 + times eq a xs = times-no eq a x xs n in
          omega arith
    ]
