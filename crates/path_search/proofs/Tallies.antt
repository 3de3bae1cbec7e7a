-- How many items of a list pass a test.
use Rattle.std.proofs.Common.{◌≡◌, ℕ, ◌+◌, ◌≤◌, Bool, true, false, cond, List, [], ◌∷◌, map, Option, Some, None, ◌⊎◌, inl, inr, refl, ap, sym, ◌∙◌, arith}
use Rattle.std.specs.Prelude.{filter, filter_map, option_map, count_by}
use Rattle.std.specs.List.{cons_option}
use Rattle.std.proofs.lemmas.Bool.{false≢true}
use Rattle.std.proofs.lemmas.List.Sums.{sum_by-cons}
use Rattle.apfs_model.specs.Lists.{In}
use Rattle.apfs_model.proofs.Searches.{from-filter, filter-test}
use Rattle.path_search.specs.Order.{is_after, put_in, by_name}

-- ---- tallies
pub bit : Bool → ℕ
bit true = 1
bit false = 0

pub tally : {X : Type 0} → (X → Bool) → List X → ℕ
tally p [] = 0
tally p (x ∷ xs) = bit (p x) + tally p xs

bit-is : (b : Bool) → cond b 1 0 ≡ bit b
unfolding bit
bit-is true = refl
bit-is false = refl

pub bit-true : (b : Bool) → b ≡ true → bit b ≡ 1
unfolding bit
bit-true true e = refl
bit-true false e = absurd (false≢true e)

pub bit-false : (b : Bool) → b ≡ false → bit b ≡ 0
unfolding bit
bit-false true e = absurd (false≢true (sym e))
bit-false false e = refl

pub tally-is : {X : Type 0} (p : X → Bool) (xs : List X) → count_by p xs ≡ tally p xs
unfolding tally
tally-is p [] = refl
tally-is p (x ∷ xs) =
    let a = sum_by-cons (λ y. cond (p y) 1 0) x xs in
    let b = tally-is p xs in
    let c = bit-is (p x) in a ∙ ap (λ n. cond (p x) 1 0 + n) b ∙ ap (λ n. n + tally p xs) c

pub tally-cons : {X : Type 0} (p : X → Bool) (x : X) (xs : List X) → tally p (x ∷ xs) ≡ bit (p x) + tally p xs
unfolding tally
tally-cons p x xs = refl

pub tally-nil : {X : Type 0} (p : X → Bool) → tally p [] ≡ 0
unfolding tally
tally-nil p = refl

pub tally-in : {X : Type 0} (p : X → Bool) (xs : List X) (x : X) → In x xs → p x ≡ true → 1 ≤ tally p xs
unfolding tally
tally-in p [] x h e = absurd h
tally-in p (y ∷ ys) x (inl s) e = let a : bit (p y) ≡ 1 = bit-true (p y) (sym (ap p s) ∙ e) in omega arith
tally-in p (y ∷ ys) x (inr h) e = let a = tally-in p ys x h e in omega arith

bit-le : (a b : Bool) → (a ≡ true → b ≡ true) → bit a ≤ bit b
unfolding bit
bit-le true b h = let e : bit b ≡ 1 = bit-true b (h refl) in omega arith
bit-le false b h = omega arith

bit-apart : (a b c : Bool) → (a ≡ true → c ≡ true) → (b ≡ true → c ≡ true) → (a ≡ true → b ≡ true → ⊥) → bit a + bit b ≤ bit c
unfolding bit
bit-apart true true c f g h = absurd (h refl refl)
bit-apart true false c f g h = let e : bit c ≡ 1 = bit-true c (f refl) in omega arith
bit-apart false true c f g h = let e : bit c ≡ 1 = bit-true c (g refl) in omega arith
bit-apart false false c f g h = omega arith

-- two tests that never hold together, and each of which implies a third
pub tally-apart : {X : Type 0} (p q r : X → Bool) → ((x : X) → p x ≡ true → r x ≡ true) → ((x : X) → q x ≡ true → r x ≡ true) → ((x : X) → p x ≡ true → q x ≡ true → ⊥) → (xs : List X) → tally p xs + tally q xs ≤ tally r xs
unfolding tally
tally-apart p q r f g h [] = omega arith
tally-apart p q r f g h (x ∷ xs) = let a = bit-apart (p x) (q x) (r x) (f x) (g x) (h x) in let b = tally-apart p q r f g h xs in omega arith

-- the facts of a test, and what they say
pub tally-kept : {X Y : Type 0} (test : X → Bool) (what : X → Y) (p : Y → Bool) (q : X → Bool) → ((x : X) → test x ≡ true → p (what x) ≡ true → q x ≡ true) → (xs : List X) → tally p (map what (filter test xs)) ≤ tally q xs
unfolding tally
tally-kept test what p q h [] = omega arith
tally-kept {X} {Y} test what p q h (x ∷ xs) =
    let rest = tally-kept test what p q h xs in
    let go : (b : Bool) → test x ≡ b → tally p (map what (cond b (x ∷ filter test xs) (filter test xs))) ≤ bit (q x) + tally q xs = λ b. elim b as (λ b. test x ≡ b → tally p (map what (cond b (x ∷ filter test xs) (filter test xs))) ≤ bit (q x) + tally q xs) [
      | true ↦ λ e. let a = bit-le (p (what x)) (q x) (h x e) in omega arith
      | false ↦ λ e. omega arith
    ] in
    go (test x) refl

pub in-kept : {X : Type 0} (test : X → Bool) (xs : List X) (x : X) → In x (filter test xs) → In x xs × (test x ≡ true)
in-kept test xs x h = (from-filter test x xs h, filter-test test x xs h)

pub in-given : {X Y : Type 0} (f : X → Option Y) (xs : List X) (y : Y) → In y (filter_map f xs) → (x : X) × (In x xs × (f x ≡ Some y))
in-given f [] y h = absurd h
in-given {X} {Y} f (x ∷ xs) y h =
    let Found : Type 0 = (z : X) × (In z (x ∷ xs) × (f z ≡ Some y)) in
    let later : In y (filter_map f xs) → Found = λ k. let t = in-given f xs y k in (t.0, (inr t.1.0, t.1.1)) in
    let go : (o : Option Y) → f x ≡ o → In y (cons_option o (filter_map f xs)) → Found = λ o. elim o as (λ o. f x ≡ o → In y (cons_option o (filter_map f xs)) → Found) [
      | None ↦ λ e k. later k
      | Some z ↦ λ e k. elim k as (λ _. Found) [ inl s ↦ (x, (inl refl, e ∙ ap Some (sym s))) | inr m ↦ later m ]
    ] in
    go (f x) refl h

pub in-put : {X : Type 0} (name : X → List ℕ) (x : X) (xs : List X) (z : X) → In z (put_in name x xs) → (z ≡ x) ⊎ In z xs
in-put name x [] z (inl e) = inl e
in-put name x [] z (inr h) = absurd h
in-put {X} name x (y ∷ ys) z h =
    let go : (b : Bool) → In z (cond b (y ∷ put_in name x ys) (x ∷ y ∷ ys)) → (z ≡ x) ⊎ In z (y ∷ ys) = λ b. elim b as (λ b. In z (cond b (y ∷ put_in name x ys) (x ∷ y ∷ ys)) → (z ≡ x) ⊎ In z (y ∷ ys)) [
      | true ↦ λ k. elim k as (λ _. (z ≡ x) ⊎ In z (y ∷ ys)) [
        | inl e ↦ inr (inl e)
        | inr m ↦ elim (in-put name x ys z m) as (λ _. (z ≡ x) ⊎ In z (y ∷ ys)) [ inl e ↦ inl e | inr n ↦ inr (inr n) ]
      ]
      | false ↦ λ k. k
    ] in
    go (is_after name x y) h

-- what stands in a list by name stands in the list
pub in-by : {X : Type 0} (name : X → List ℕ) (xs : List X) (z : X) → In z (by_name name xs) → In z xs
in-by name [] z h = absurd h
in-by name (x ∷ xs) z h = elim (in-put name x (by_name name xs) z h) as (λ _. In z (x ∷ xs)) [ inl e ↦ inl e | inr m ↦ inr (in-by name xs z m) ]

-- a list by name has as many of each
tally-put : {X : Type 0} (p : X → Bool) (name : X → List ℕ) (x : X) (xs : List X) → tally p (put_in name x xs) ≡ bit (p x) + tally p xs
tally-put p name x [] = tally-cons p x []
tally-put {X} p name x (y ∷ ys) =
    let rest = tally-put p name x ys in
    let two : tally p (y ∷ ys) ≡ bit (p y) + tally p ys = tally-cons p y ys in
    let go : (b : Bool) → tally p (cond b (y ∷ put_in name x ys) (x ∷ y ∷ ys)) ≡ bit (p x) + tally p (y ∷ ys) = λ b. elim b as (λ b. tally p (cond b (y ∷ put_in name x ys) (x ∷ y ∷ ys)) ≡ bit (p x) + tally p (y ∷ ys)) [
      | true ↦ let one : tally p (y ∷ put_in name x ys) ≡ bit (p y) + tally p (put_in name x ys) = tally-cons p y (put_in name x ys) in omega arith
      | false ↦ tally-cons p x (y ∷ ys)
    ] in
    go (is_after name x y)

pub tally-by : {X : Type 0} (p : X → Bool) (name : X → List ℕ) (xs : List X) → tally p (by_name name xs) ≡ tally p xs
tally-by p name [] = refl
tally-by p name (x ∷ xs) =
    let rest = tally-by p name xs in
    let one = tally-put p name x (by_name name xs) in
    let two = tally-cons p x xs in omega arith

-- of what is counted one is there
pub tally-some : {X : Type 0} (p : X → Bool) (xs : List X) → 1 ≤ tally p xs → (x : X) × (In x xs × (p x ≡ true))
tally-some p [] low = let none = tally-nil p in absurd (omega arith)
tally-some {X} p (x ∷ xs) low =
    let Found : Type 0 = (z : X) × (In z (x ∷ xs) × (p z ≡ true)) in
    let more : tally p (x ∷ xs) ≡ bit (p x) + tally p xs = tally-cons p x xs in
    let go : (b : Bool) → p x ≡ b → Found = λ b. elim b as (λ b. p x ≡ b → Found) [
      | true ↦ λ e. (x, (inl refl, e))
      | false ↦ λ e. let none : bit (p x) ≡ 0 = bit-false (p x) e in let t = tally-some p xs (omega arith) in (t.0, (inr t.1.0, t.1.1))
    ] in
    go (p x) refl

pub mapped-at : {X Y : Type 0} (f : X → Y) (o : Option X) (y : Y) → option_map f o ≡ Some y → (x : X) × ((o ≡ Some x) × (f x ≡ y))
mapped-at f None y e = absurd cc
mapped-at f (Some x) y e = (x, (refl, let s : f x ≡ y = cc in s))
