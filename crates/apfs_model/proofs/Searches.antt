-- Searches of lists that decide.
use Rattle.std.proofs.Common.{◌≡◌, ℕ, zero, suc, ◌<◌, Bool, true, false, ◌==◌, cond, List, [], ◌∷◌, ◌++◌, length, Option, Some, ◌⊎◌, inl, inr, refl, ap, sym, ◌∙◌, subst, arith, map}
use Rattle.std.specs.Prelude.{slice_get}
use Rattle.std.specs.List.{find, flat_map, filter, list_all, list_any}
use Rattle.std.proofs.lemmas.Bool.{cases_lt}
use Rattle.apfs_model.specs.Lists.{In, Lists, has, passes}
use Rattle.apfs_model.proofs.BoolTests.{left-or, right-or, either-from, test_or, equal-from, from-equal}

pub in-left : {X : Type 0} (x : X) (xs ys : List X) → In x xs → In x (xs ++ ys)
in-left x [] ys h = absurd h
in-left x (y ∷ xs) ys (inl e) = inl e
in-left x (y ∷ xs) ys (inr h) = inr (in-left x xs ys h)

pub in-right : {X : Type 0} (x : X) (xs ys : List X) → In x ys → In x (xs ++ ys)
in-right x [] ys h = h
in-right x (y ∷ xs) ys h = inr (in-right x xs ys h)

pub in-append : {X : Type 0} (x : X) (xs ys : List X) → In x (xs ++ ys) → In x xs ⊎ In x ys
in-append x [] ys h = inr h
in-append x (y ∷ xs) ys (inl e) = inl (inl e)
in-append x (y ∷ xs) ys (inr h) = elim (in-append x xs ys h) [ inl a ↦ inl (inr a) | inr b ↦ inr b ]

pub in-flat_map : {X Y : Type 0} (f : X → List Y) (x : X) (y : Y) (xs : List X) → In x xs → In y (f x) → In y (flat_map f xs)
in-flat_map f x y [] h k = absurd h
in-flat_map f x y (z ∷ xs) (inl e) k = in-left y (f z) (flat_map f xs) (subst (λ w. In y (f w)) e k)
in-flat_map f x y (z ∷ xs) (inr h) k = in-right y (f z) (flat_map f xs) (in-flat_map f x y xs h k)

pub from-flat_map : {X Y : Type 0} (f : X → List Y) (y : Y) (xs : List X) → In y (flat_map f xs) → (x : X) × (In x xs × In y (f x))
from-flat_map f y [] h = absurd h
from-flat_map {X} f y (z ∷ xs) h = elim (in-append y (f z) (flat_map f xs) h) as (λ _. (x : X) × (In x (z ∷ xs) × In y (f x))) [
  | inl a ↦ (z, (inl refl, a))
  | inr b ↦ let t = from-flat_map f y xs b in (t.0, (inr t.1.0, t.1.1))
]

pub in-filter : {X : Type 0} (p : X → Bool) (x : X) (xs : List X) → In x xs → p x ≡ true → In x (filter p xs)
in-filter p x [] h t = absurd h
in-filter p x (y ∷ xs) (inl e) t = let t' : p y ≡ true = subst (λ w. p w ≡ true) e t in subst (λ b. In x (cond b (y ∷ filter p xs) (filter p xs))) (sym t') (inl e)
in-filter p x (y ∷ xs) (inr h) t = let more = in-filter p x xs h t in
    elim (p y) as (λ b. In x (cond b (y ∷ filter p xs) (filter p xs))) [ true ↦ inr more | false ↦ more ]

pub from-filter : {X : Type 0} (p : X → Bool) (x : X) (xs : List X) → In x (filter p xs) → In x xs
from-filter p x [] h = absurd h
from-filter p x (y ∷ xs) h =
    let go : (b : Bool) → In x (cond b (y ∷ filter p xs) (filter p xs)) → In x (y ∷ xs) =
    λ b. elim b as (λ b. In x (cond b (y ∷ filter p xs) (filter p xs)) → In x (y ∷ xs)) [
      | true ↦ λ k. elim k as (λ _. In x (y ∷ xs)) [ inl e ↦ inl e | inr m ↦ inr (from-filter p x xs m) ]
      | false ↦ λ k. inr (from-filter p x xs k)
    ] in
    go (p y) h

pub filter-test : {X : Type 0} (p : X → Bool) (x : X) (xs : List X) → In x (filter p xs) → p x ≡ true
filter-test p x [] h = absurd h
filter-test p x (y ∷ xs) h =
    let go : (b : Bool) → p y ≡ b → In x (cond b (y ∷ filter p xs) (filter p xs)) → p x ≡ true =
    λ b. elim b as (λ b. p y ≡ b → In x (cond b (y ∷ filter p xs) (filter p xs)) → p x ≡ true) [
      | true ↦ λ t k. elim k as (λ _. p x ≡ true) [ inl e ↦ ap p e ∙ t | inr m ↦ filter-test p x xs m ]
      | false ↦ λ t k. filter-test p x xs k
    ] in
    go (p y) refl h

-- all pass, or one fails: each element is decided, and so is the list
pub every_or : {X : Type 0} (P Q : X → Type 0) → ((x : X) → P x ⊎ Q x) → (xs : List X) → ((x : X) → In x xs → P x) ⊎ ((x : X) × (In x xs × Q x))
every_or P Q test [] = inl (λ x h. absurd h)
every_or {X} P Q test (x ∷ xs) = elim (test x) as (λ _. ((y : X) → In y (x ∷ xs) → P y) ⊎ ((y : X) × (In y (x ∷ xs) × Q y))) [
  | inl p ↦ elim (every_or P Q test xs) as (λ _. ((y : X) → In y (x ∷ xs) → P y) ⊎ ((y : X) × (In y (x ∷ xs) × Q y))) [
    | inl all ↦ inl (λ y h. elim h as (λ _. P y) [ inl e ↦ subst P (sym e) p | inr m ↦ all y m ])
    | inr t ↦ inr (t.0, (inr t.1.0, t.1.1))
  ]
  | inr q ↦ inr (x, (inl refl, q))
]

-- one passes, or all fail
pub any_or : {X : Type 0} (P Q : X → Type 0) → ((x : X) → P x ⊎ Q x) → (xs : List X) → ((x : X) × (In x xs × P x)) ⊎ ((x : X) → In x xs → Q x)
any_or {X} P Q test xs = elim (every_or Q P (λ x. elim (test x) as (λ _. Q x ⊎ P x) [ inl p ↦ inr p | inr q ↦ inl q ]) xs) as (λ _. ((x : X) × (In x xs × P x)) ⊎ ((x : X) → In x xs → Q x)) [ inl a ↦ inr a | inr t ↦ inl t ]

last : (k n : ℕ) → k < suc n → (k < n) ⊎ (k ≡ n)
last k n h = elim (cases_lt k n) as (λ _. (k < n) ⊎ (k ≡ n)) [ inl low ↦ inl low | inr high ↦ inr (omega arith) ]

-- all numbers below a bound, or one
pub below_or : (P Q : ℕ → Type 0) → ((k : ℕ) → P k ⊎ Q k) → (n : ℕ) → ((k : ℕ) → k < n → P k) ⊎ ((k : ℕ) × ((k < n) × Q k))
below_or P Q test zero = inl (λ k h. absurd (omega arith))
below_or P Q test (suc n) = elim (below_or P Q test n) as (λ _. ((k : ℕ) → k < suc n → P k) ⊎ ((k : ℕ) × ((k < suc n) × Q k))) [
  | inl all ↦ elim (test n) as (λ _. ((k : ℕ) → k < suc n → P k) ⊎ ((k : ℕ) × ((k < suc n) × Q k))) [
    | inl p ↦ inl (λ k h. elim (last k n h) as (λ _. P k) [ inl low ↦ all k low | inr e ↦ subst P (sym e) p ])
    | inr q ↦ inr (n, (omega arith, q))
  ]
  | inr t ↦ let low : t.0 < n = t.1.0 in inr (t.0, (omega arith, t.1.1))
]

pub in-map : {X Y : Type 0} (f : X → Y) (xs : List X) (x : X) → In x xs → In (f x) (map f xs)
in-map f [] x h = absurd h
in-map f (y ∷ xs) x (inl e) = inl (ap f e)
in-map f (y ∷ xs) x (inr h) = inr (in-map f xs x h)

pub from-map : {X Y : Type 0} (f : X → Y) (xs : List X) (y : Y) → In y (map f xs) → (x : X) × (In x xs × (y ≡ f x))
from-map f [] y h = absurd h
from-map f (z ∷ xs) y (inl e) = (z, (inl refl, e))
from-map f (z ∷ xs) y (inr h) = let t = from-map f xs y h in (t.0, (inr t.1.0, t.1.1))

-- over what a list stands for, all pass or one fails
pub every_of : {X : Type 0} (R : X → Type 0) (xs : List X) → Lists xs R → (P Q : X → Type 0) → ((x : X) → P x ⊎ Q x) → ((x : X) → R x → P x) ⊎ ((x : X) × (R x × Q x))
every_of {X} R xs lists P Q test = elim (every_or P Q test xs) as (λ _. ((x : X) → R x → P x) ⊎ ((x : X) × (R x × Q x))) [
  | inl all ↦ inl (λ x r. all x (lists.1 x r))
  | inr t ↦ inr (t.0, (lists.0 t.0 t.1.0, t.1.1))
]

-- one passes, or all fail
pub any_of : {X : Type 0} (R : X → Type 0) (xs : List X) → Lists xs R → (P Q : X → Type 0) → ((x : X) → P x ⊎ Q x) → ((x : X) × (R x × P x)) ⊎ ((x : X) → R x → Q x)
any_of {X} R xs lists P Q test = elim (any_or P Q test xs) as (λ _. ((x : X) × (R x × P x)) ⊎ ((x : X) → R x → Q x)) [
  | inl t ↦ inl (t.0, (lists.0 t.0 t.1.0, t.1.1))
  | inr all ↦ inr (λ x r. all x (lists.1 x r))
]

-- all pass, so the test of the list does
pub all-of : {X : Type 0} (test : X → Bool) (xs : List X) → ((x : X) → In x xs → test x ≡ true) → list_all test xs ≡ true
all-of test [] h = refl
all-of test (x ∷ xs) h = let more = all-of test xs (λ y k. h y (inr k)) in let here : test x ≡ true = h x (inl refl) in cc

-- an item that is found is one of the list, and passes
pub found-in : {X : Type 0} (test : X → Bool) (xs : List X) (x : X) → find test xs ≡ Some x → In x xs × (test x ≡ true)
found-in test [] x e = absurd cc
found-in test (y ∷ ys) x e = elim (test_or (test y)) as (λ _. In x (y ∷ ys) × (test x ≡ true)) [
  | inl t ↦ let f : ◌≡◌ {A = Option _} (Some y) (Some x) = sym (ap (λ b. cond b (Some y) (find test ys)) t) ∙ e in let same : x ≡ y = cc in (inl same, ap test same ∙ t)
  | inr t ↦ let r = found-in test ys x (sym (ap (λ b. cond b (Some y) (find test ys)) t) ∙ e) in (inr r.0, r.1)
]

-- an item at a place of a list is one of it, and each one of it has a place
pub get-in : {X : Type 0} (xs : List X) (i : ℕ) (x : X) → slice_get xs i ≡ Some x → In x xs
get-in [] i x e = absurd cc
get-in (y ∷ xs) zero x e = inl cc
get-in (y ∷ xs) (suc i) x e = inr (get-in xs i x e)

pub in-get : {X : Type 0} (xs : List X) (x : X) → In x xs → (i : ℕ) × (slice_get xs i ≡ Some x)
in-get [] x h = absurd h
in-get (y ∷ xs) x (inl e) = (0, ap Some (sym e))
in-get (y ∷ xs) x (inr h) = let t = in-get xs x h in (suc t.0, t.1)

-- a number stands in a list, by the test and by the fact
pub in-has : (n : ℕ) (ns : List ℕ) → In n ns → has ns n ≡ true
in-has n [] h = absurd h
in-has n (m ∷ ms) (inl e) = left-or (m == n) (has ms n) (from-equal m n (sym e))
in-has n (m ∷ ms) (inr h) = right-or (m == n) (has ms n) (in-has n ms h)

pub has-in : (n : ℕ) (ns : List ℕ) → has ns n ≡ true → In n ns
has-in n [] e = absurd cc
has-in n (m ∷ ms) e = elim (either-from (m == n) (has ms n) e) as (λ _. In n (m ∷ ms)) [
  | inl s ↦ inl (sym (equal-from m n s))
  | inr h ↦ inr (has-in n ms h)
]

-- an item at a place passes, so one of the list does
pub any-passes : {X : Type 0} (test : X → Bool) (xs : List X) (n : ℕ) → passes (slice_get xs n) test ≡ true → list_any test xs ≡ true
any-passes test [] n e = e
any-passes test (x ∷ xs) zero e = left-or (test x) (list_any test xs) e
any-passes test (x ∷ xs) (suc n) e = right-or (test x) (list_any test xs) (any-passes test xs n e)

-- and the place is one of the list's
pub passing-below : {X : Type 0} (test : X → Bool) (xs : List X) (n : ℕ) → passes (slice_get xs n) test ≡ true → n < length xs
passing-below test [] n e = absurd cc
passing-below test (x ∷ xs) zero e = omega arith
passing-below test (x ∷ xs) (suc n) e = let l : n < length xs = passing-below test xs n e in omega arith
