-- Lists, and the places of their items.
use Rattle.std.proofs.Common.{◌≡◌, ℕ, zero, suc, ◌<◌, ◌+◌, Bool, false, ◌||◌, List, [], ◌∷◌, ◌++◌, length, take, get_or, Option, Some, None, ◌⊎◌, inl, inr, refl, ap, ap₂, sym, ◌∙◌, subst, arith}
use Rattle.std.specs.Prelude.{◌↔◌, slice_get}
use Rattle.std.specs.List.{list_any}
use Rattle.std.proofs.lemmas.List.{take_more, length_push}
use Rattle.apfs_model.specs.Lists.{In, passes}
use Rattle.apfs_model.proofs.Searches.{in-left, in-right, in-append}

pub one-some : {X : Type 0} (a b : X) → ◌≡◌ {A = Option X} (Some a) (Some b) → a ≡ b
one-some a b e = cc

pub no-some : {X T : Type 0} (a : X) → ◌≡◌ {A = Option X} None (Some a) → T
no-some a e = absurd (let q : ⊥ = cc in q)

-- a place below its length has an item
pub get-there : {X : Type 0} (xs : List X) (i : ℕ) → i < length xs → (x : X) × (slice_get xs i ≡ Some x)
get-there [] i low = absurd (let q : ⊥ = omega (arith, low) in q)
get-there (x ∷ xs) zero low = (x, refl)
get-there (x ∷ xs) (suc i) low = get-there xs i (omega (arith, low))

-- a place of a list lies below its length
pub below-length : {X : Type 0} (xs : List X) (i : ℕ) (x : X) → slice_get xs i ≡ Some x → i < length xs
below-length [] i x e = no-some x e
below-length (a ∷ xs) zero x e = omega arith
below-length (a ∷ xs) (suc i) x e = let low = below-length xs i x e in omega (arith, low)

-- what stood there still does, and the new item stands behind
pub push-before : {X : Type 0} (xs : List X) (x : X) (i : ℕ) (y : X) → slice_get xs i ≡ Some y → slice_get (xs ++ x ∷ []) i ≡ Some y
push-before [] x i y e = no-some y e
push-before (z ∷ zs) x zero y e = e
push-before (z ∷ zs) x (suc i) y e = push-before zs x i y e

pub push-last : {X : Type 0} (xs : List X) (x : X) (i : ℕ) → i ≡ length xs → slice_get (xs ++ x ∷ []) i ≡ Some x
push-last [] x zero same = refl
push-last (z ∷ zs) x (suc i) same = push-last zs x i (omega (arith, same))
push-last xs x i same = absurd (let q : ⊥ = omega (arith, same) in q)

-- a list with one more item is longer by one
pub one-longer : {X : Type 0} (xs ys : List X) (x : X) → ys ≡ xs ++ x ∷ [] → length ys ≡ length xs + 1
one-longer {X} xs ys x e = ap (λ (zs : List X). length zs) e ∙ length_push xs x

-- what is got at a place of a list is one of its items
pub got-in : {X : Type 0} (xs : List X) (i : ℕ) (d : X) → i < length xs → In (get_or xs i d) xs
got-in [] i d low = absurd (let q : ⊥ = omega (arith, low) in q)
got-in (x ∷ xs) zero d low = inl refl
got-in (x ∷ xs) (suc i) d low = inr (got-in xs i d (omega (arith, low)))

-- no item is taken of none
pub none-taken : {X : Type 0} (xs : List X) (x : X) → In x (take 0 xs) → ⊥
none-taken [] x h = h
none-taken (y ∷ ys) x h = h

-- of one item more that one is taken too
pub taken-more : {X : Type 0} (xs : List X) (i : ℕ) (d x : X) → i < length xs → In x (take (i + 1) xs) ↔ (In x (take i xs) ⊎ (x ≡ get_or xs i d))
taken-more {X} xs i d x low =
    let last : List X = get_or xs i d ∷ [] in
    let more : take (i + 1) xs ≡ take i xs ++ last = take_more xs i d low in
    let There : Type 0 = In x (take i xs) ⊎ (x ≡ get_or xs i d) in (
      (λ h. elim (in-append x (take i xs) last (subst (λ (ys : List X). In x ys) more h)) as (λ _. There) [
        | inl k ↦ inl k
        | inr l ↦ elim l as (λ _. There) [ inl e ↦ inr e | inr none ↦ absurd none ]
      ]),
      (λ t. subst (λ (ys : List X). In x ys) (sym more) (elim t as (λ _. In x (take i xs ++ last)) [ inl k ↦ in-left x (take i xs) last k | inr e ↦ in-right x (take i xs) last (inl e) ])),
    )

-- no item passes where each fails
pub none-any : {X : Type 0} (test : X → Bool) (xs : List X) → ((x : X) → In x xs → test x ≡ false) → list_any test xs ≡ false
none-any test [] fails = refl
none-any test (x ∷ xs) fails = ap₂ ◌||◌ (fails x (inl refl)) (none-any test xs (λ y h. fails y (inr h)))

-- or where the item of each place fails
pub none-passes : {X : Type 0} (test : X → Bool) (xs : List X) → ((i : ℕ) → i < length xs → passes (slice_get xs i) test ≡ false) → list_any test xs ≡ false
none-passes test [] fails = refl
none-passes test (x ∷ xs) fails = ap₂ ◌||◌ (fails 0 (omega arith)) (none-passes test xs (λ i low. fails (suc i) (omega (arith, low))))
