-- Tests that hold or don't.
use Rattle.std.proofs.Common.{◌≡◌, ℕ, zero, suc, ◌+◌, ◌<◌, ◌≤◌, Bool, true, false, not, ◌&&◌, ◌||◌, nat_lt, nat_le, ◌==◌, List, [], ◌∷◌, ◌⊎◌, inl, inr, refl, sym, ◌∙◌, subst, arith}
use Rattle.std.proofs.lemmas.Grind.{common_steps}
use Rattle.std.specs.List.{range_with_len, list_all}
use Rattle.apfs_model.specs.Lists.{In}

-- a test doesn't both pass and fail
pub clash : {A : Type 0} (b : Bool) → b ≡ true → b ≡ false → A
clash {A} b t f = let z : true ≡ false = sym t ∙ f in absurd (let q : ⊥ = cc in q)

pub left-true : (a b : Bool) → (a && b) ≡ true → a ≡ true
left-true true b e = refl
left-true false b e = e

pub right-true : (a b : Bool) → (a && b) ≡ true → b ≡ true
right-true true b e = e
right-true false b e = let z : false ≡ true = e in absurd (let q : ⊥ = cc in q)

pub both-true : (a b : Bool) → a ≡ true → b ≡ true → (a && b) ≡ true
both-true true b e f = f
both-true false b e f = e

pub other-true : (a b : Bool) → a ≡ false → (a || b) ≡ true → b ≡ true
other-true true b e f = let z : true ≡ false = e in absurd (let q : ⊥ = cc in q)
other-true false b e f = f

pub left-or : (a b : Bool) → a ≡ true → (a || b) ≡ true
left-or true b e = refl
left-or false b e = clash false e refl

pub right-or : (a b : Bool) → b ≡ true → (a || b) ≡ true
right-or true b e = refl
right-or false b e = e

pub either-from : (a b : Bool) → (a || b) ≡ true → (a ≡ true) ⊎ (b ≡ true)
either-from true b e = inl refl
either-from false b e = inr e

pub not-true : (b : Bool) → not b ≡ true → b ≡ false
not-true true e = clash false e refl
not-true false e = refl

pub not-false : (b : Bool) → not b ≡ false → b ≡ true
not-false true e = refl
not-false false e = clash true refl e

pub false-not : (b : Bool) → b ≡ false → not b ≡ true
false-not true e = clash true refl e
false-not false e = refl

pub never-true : (b : Bool) → (b ≡ true → ⊥) → b ≡ false
never-true true h = absurd (h refl)
never-true false h = refl

-- a test doesn't both pass and fail
pub denied : (b : Bool) → b ≡ true → not b ≡ true → ⊥
denied b e f = clash b e (not-true b f)

-- of a test or two, the first doesn't pass
pub former-true : (a b c : Bool) → a ≡ false → (a || (b && c)) ≡ true → b ≡ true
former-true a b c e f = left-true b c (other-true a (b && c) e f)

pub latter-true : (a b c : Bool) → a ≡ false → (a || (b && c)) ≡ true → c ≡ true
latter-true a b c e f = right-true b c (other-true a (b && c) e f)

pub test_or : (b : Bool) → (b ≡ true) ⊎ (b ≡ false)
test_or true = inl refl
test_or false = inr refl

pub below-from : (a b : ℕ) → nat_lt a b ≡ true → a < b
below-from a b e = grind (arith, common_steps)

pub from-below : (a b : ℕ) → a < b → nat_lt a b ≡ true
from-below a b l = grind (arith, common_steps)

pub upto-from : (a b : ℕ) → nat_le a b ≡ true → a ≤ b
upto-from a b e = grind (arith, common_steps)

pub from-upto : (a b : ℕ) → a ≤ b → nat_le a b ≡ true
from-upto a b l = grind (arith, common_steps)

pub equal-from : (a b : ℕ) → (a == b) ≡ true → a ≡ b
equal-from a b e = grind (arith, common_steps)

pub from-equal : (a b : ℕ) → a ≡ b → (a == b) ≡ true
from-equal a b e = grind (arith, common_steps)

pub unequal-from : (a b : ℕ) → (a == b) ≡ false → a ≡ b → ⊥
unequal-from a b e s = clash (a == b) (from-equal a b s) e

-- an item of a list of which all pass
pub all-in : {X : Type 0} (test : X → Bool) (xs : List X) → list_all test xs ≡ true → (x : X) → In x xs → test x ≡ true
all-in test [] e x h = absurd h
all-in test (y ∷ ys) e x (inl s) = subst (λ z. test z ≡ true) (sym s) (left-true (test y) (list_all test ys) e)
all-in test (y ∷ ys) e x (inr h) = all-in test ys (right-true (test y) (list_all test ys) e) x h

-- the numbers of a range
pub in-range : (first n k : ℕ) → first ≤ k → k < first + n → In k (range_with_len first n)
in-range first zero k a b = absurd (omega arith)
in-range first (suc n) k a b = elim (test_or (k == first)) as (λ _. In k (range_with_len first (suc n))) [
  | inl e ↦ inl (equal-from k first e)
  | inr e ↦ let d : (k ≡ first → ⊥) = unequal-from k first e in inr (in-range (first + 1) n k (let c : (k ≤ first) ⊎ (first < k) = grind arith in elim c as (λ _. first + 1 ≤ k) [ inl l ↦ absurd (d (omega arith)) | inr l ↦ omega arith ]) (omega arith))
]

pub from-range : (first n k : ℕ) → In k (range_with_len first n) → k < first + n
from-range first zero k h = absurd h
from-range first (suc n) k (inl e) = omega arith
from-range first (suc n) k (inr h) = let l = from-range (first + 1) n k h in omega arith
