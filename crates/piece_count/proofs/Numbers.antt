-- Numbers of blocks that pass tests.
use Rattle.std.proofs.Common.{◌≡◌, ℕ, zero, suc, ◌+◌, ◌-◌, ◌<◌, ◌≤◌, Bool, true, false, cond, ◌||◌, nat_le, nat_lt, List, [], ◌∷◌, length, get_or, max, min, ◌⊎◌, inl, inr, refl, ap, ap₂, sym, ◌∙◌, subst, arith}
use Rattle.std.specs.Prelude.{count_by}
use Rattle.std.specs.List.{range_with_len, list_any}
use Rattle.std.proofs.lemmas.List.Sums.{sum_by-cons, count_by-le-length}
use Rattle.std.proofs.lemmas.List.FromFn.{length-range_with_len}
use Rattle.apfs_model.specs.Lists.{In}
use Rattle.apfs_model.proofs.BoolTests.{left-true, right-true, both-true, left-or, right-or, either-from, test_or, clash, below-from, from-below, upto-from, from-upto, in-range, from-range}
use Rattle.piece_count.specs.Covered.{is_from, count_below}

-- ---- tests
pub from-low : (lo hi n : ℕ) → is_from lo hi n ≡ true → lo ≤ n
from-low lo hi n e = upto-from lo n (left-true (nat_le lo n) (nat_lt n hi) e)

pub from-high : (lo hi n : ℕ) → is_from lo hi n ≡ true → n < hi
from-high lo hi n e = below-from n hi (right-true (nat_le lo n) (nat_lt n hi) e)

pub from-is : (lo hi n : ℕ) → lo ≤ n → n < hi → is_from lo hi n ≡ true
from-is lo hi n a b = both-true (nat_le lo n) (nat_lt n hi) (from-upto lo n a) (from-below n hi b)

-- two tests are one where each passes if the other does
pub one-test : (a b : Bool) → (a ≡ true → b ≡ true) → (b ≡ true → a ≡ true) → a ≡ b
one-test true b f g = sym (f refl)
one-test false true f g = clash false (g refl) refl
one-test false false f g = refl

-- one of some items passes
pub any-there : {X : Type 0} (test : X → Bool) (xs : List X) (x : X) → In x xs → test x ≡ true → list_any test xs ≡ true
any-there test [] x h e = absurd h
any-there test (y ∷ ys) x (inl s) e = left-or (test y) (list_any test ys) (subst (λ z. test z ≡ true) s e)
any-there test (y ∷ ys) x (inr h) e = right-or (test y) (list_any test ys) (any-there test ys x h e)

pub there-any : {X : Type 0} (test : X → Bool) (xs : List X) → list_any test xs ≡ true → (x : X) × (In x xs × (test x ≡ true))
there-any test [] e = clash false e refl
there-any {X} test (y ∷ ys) e = elim (either-from (test y) (list_any test ys) e) as (λ _. (x : X) × (In x (y ∷ ys) × (test x ≡ true))) [
  | inl t ↦ (y, (inl refl, t))
  | inr t ↦ let r = there-any test ys t in (r.0, (inr r.1.0, r.1.1))
]

-- one of the numbers below one passes
pub any-below : (test : ℕ → Bool) (n k : ℕ) → k < n → test k ≡ true → list_any test (range_with_len 0 n) ≡ true
any-below test n k low e = any-there test (range_with_len 0 n) k (in-range 0 n k (omega arith) (omega (arith, low))) e

pub below-any : (test : ℕ → Bool) (n : ℕ) → list_any test (range_with_len 0 n) ≡ true → (k : ℕ) × ((k < n) × (test k ≡ true))
below-any test n e =
    let r = there-any test (range_with_len 0 n) e in
    let low = from-range 0 n r.0 r.1.0 in
    (r.0, (omega (arith, low), r.1.1))

pub any-same : (p q : ℕ → Bool) (n : ℕ) → ((k : ℕ) → k < n → p k ≡ q k) → list_any p (range_with_len 0 n) ≡ list_any q (range_with_len 0 n)
any-same p q n same = one-test (list_any p (range_with_len 0 n)) (list_any q (range_with_len 0 n))
    (λ e. let r = below-any p n e in any-below q n r.0 r.1.0 (sym (same r.0 r.1.0) ∙ r.1.1))
    (λ e. let r = below-any q n e in any-below p n r.0 r.1.0 (same r.0 r.1.0 ∙ r.1.1))

-- what is got at a place of a list
pub one-got : {X : Type 0} (xs : List X) (i : ℕ) (d e : X) → i < length xs → get_or xs i d ≡ get_or xs i e
one-got [] i d e low = absurd (let q : ⊥ = omega (arith, low) in q)
one-got (x ∷ xs) zero d e low = refl
one-got (x ∷ xs) (suc i) d e low = one-got xs i d e (omega (arith, low))

pub got-from : {X : Type 0} (xs : List X) (x d : X) → In x xs → (j : ℕ) × ((j < length xs) × (get_or xs j d ≡ x))
got-from [] x d h = absurd h
got-from (y ∷ ys) x d (inl e) = (0, (omega arith, sym e))
got-from (y ∷ ys) x d (inr h) = let t = got-from ys x d h in let low : t.0 < length ys = t.1.0 in (suc t.0, (omega (arith, low), t.1.1))

pub got-in : {X : Type 0} (xs : List X) (j : ℕ) (d : X) → j < length xs → In (get_or xs j d) xs
got-in [] j d low = absurd (let q : ⊥ = omega (arith, low) in q)
got-in (y ∷ ys) zero d low = inl refl
got-in (y ∷ ys) (suc j) d low = inr (got-in ys j d (omega (arith, low)))

-- ---- counts

first-counted : (p : ℕ → Bool) (a n : ℕ) → count_by p (range_with_len a (suc n)) ≡ cond (p a) 1 0 + count_by p (range_with_len (a + 1) n)
first-counted p a n = sum_by-cons (λ i. cond (p i) 1 0) a (range_with_len (a + 1) n)

last-counted : (p : ℕ → Bool) (a n : ℕ) → count_by p (range_with_len a (n + 1)) ≡ count_by p (range_with_len a n) + cond (p (a + n)) 1 0
last-counted p a zero =
    let here : a ≡ a + 0 = omega arith in
    let same : cond (p a) 1 0 ≡ cond (p (a + 0)) 1 0 = ap {B = ℕ} (λ k. cond (p k) 1 0) here in
    let e = first-counted p a 0 in
    omega (arith, e, same)
last-counted p a (suc n) =
    let here : a + 1 + n ≡ a + suc n = omega arith in
    let same : cond (p (a + 1 + n)) 1 0 ≡ cond (p (a + suc n)) 1 0 = ap {B = ℕ} (λ k. cond (p k) 1 0) here in
    let long : suc n + 1 ≡ suc (n + 1) = omega arith in
    let e = first-counted p a (n + 1) in
    let f = first-counted p a n in
    let r = last-counted p (a + 1) n in
    ap (λ k. count_by p (range_with_len a k)) long ∙ omega (arith, e, f, r, same)

-- one number more
pub count-more : (p : ℕ → Bool) (n : ℕ) → count_below p (n + 1) ≡ count_below p n + cond (p n) 1 0
unfolding count_below
count-more p n =
    let here : 0 + n ≡ n = omega arith in
    let same : cond (p (0 + n)) 1 0 ≡ cond (p n) 1 0 = ap {B = ℕ} (λ k. cond (p k) 1 0) here in
    let e = last-counted p 0 n in
    omega (arith, e, same)

pub count-none : (p : ℕ → Bool) → count_below p 0 ≡ 0
unfolding count_below
count-none p = refl

pub count-bound : (p : ℕ → Bool) (n : ℕ) → count_below p n ≤ n
unfolding count_below
count-bound p n = omega (arith, count_by-le-length p (range_with_len 0 n), length-range_with_len 0 n)

-- none passes
pub count-empty : (p : ℕ → Bool) (n : ℕ) → ((k : ℕ) → k < n → p k ≡ false) → count_below p n ≡ 0
count-empty p zero none = count-none p
count-empty p (suc n) none =
    let long : suc n ≡ n + 1 = omega arith in
    let rest = count-empty p n (λ k low. none k (omega (arith, low))) in
    let here : cond (p n) 1 0 ≡ 0 = ap {B = ℕ} (λ b. cond b 1 0) (none n (omega arith)) in
    let e = count-more p n in
    ap (count_below p) long ∙ omega (arith, rest, here, e)

-- what passes by two tests alike
pub count-same : (p q : ℕ → Bool) (n : ℕ) → ((k : ℕ) → k < n → p k ≡ q k) → count_below p n ≡ count_below q n
count-same p q zero same = count-none p ∙ sym (count-none q)
count-same p q (suc n) same =
    let long : suc n ≡ n + 1 = omega arith in
    let rest = count-same p q n (λ k low. same k (omega (arith, low))) in
    let here : cond (p n) 1 0 ≡ cond (q n) 1 0 = ap {B = ℕ} (λ b. cond b 1 0) (same n (omega arith)) in
    let e = count-more p n in
    let f = count-more q n in
    ap (count_below p) long ∙ (omega (arith, rest, here, e, f) ∙ ap (count_below q) (sym long))

pub outside : (lo hi n : ℕ) → is_from lo hi n ≡ false → (n < lo) ⊎ (hi ≤ n)
outside lo hi n e =
    let c : (n < lo) ⊎ (lo ≤ n) = grind arith in
    let d : (n < hi) ⊎ (hi ≤ n) = grind arith in
    elim c as (λ _. (n < lo) ⊎ (hi ≤ n)) [
      | inl l ↦ inl l
      | inr l ↦ elim d as (λ _. (n < lo) ⊎ (hi ≤ n)) [
        | inl h ↦ clash (is_from lo hi n) (from-is lo hi n l h) e
        | inr h ↦ inr h
      ]
    ]

-- the numbers from one up to another pass too, of which none did
pub count-grown : (p q : ℕ → Bool) (lo hi n : ℕ) → ((k : ℕ) → k < n → q k ≡ (p k || is_from lo hi k)) → ((k : ℕ) → k < n → is_from lo hi k ≡ true → p k ≡ false) → count_below q n ≡ count_below p n + (min hi n - lo)
count-grown p q lo hi zero same none =
    let e = count-none q in
    let f = count-none p in
    omega (arith, e, f)
count-grown p q lo hi (suc n) same none =
    let long : suc n ≡ n + 1 = omega arith in
    let rest = count-grown p q lo hi n (λ k low. same k (omega (arith, low))) (λ k low. none k (omega (arith, low))) in
    let e = count-more p n in
    let f = count-more q n in
    let here = same n (omega arith) in
    let Goal : Type 0 = count_below q (n + 1) ≡ count_below p (n + 1) + (min hi (n + 1) - lo) in
    let all : Goal = elim (test_or (is_from lo hi n)) as (λ _. Goal) [
      | inl y ↦
          let low = from-low lo hi n y in
          let high = from-high lo hi n y in
          let old : cond (p n) 1 0 ≡ 0 = ap {B = ℕ} (λ b. cond b 1 0) (none n (omega arith) y) in
          let new : cond (q n) 1 0 ≡ 1 = ap {B = ℕ} (λ b. cond b 1 0) (here ∙ right-or (p n) (is_from lo hi n) y) in
          omega (arith, rest, e, f, low, high, old, new)
      | inr y ↦
          let out : (n < lo) ⊎ (hi ≤ n) = outside lo hi n y in
          let old : (b c : Bool) → c ≡ false → (b || c) ≡ b = λ b c s. elim b as (λ b. (b || c) ≡ b) [ true ↦ refl | false ↦ s ] in
          let new : cond (q n) 1 0 ≡ cond (p n) 1 0 = ap {B = ℕ} (λ b. cond b 1 0) (here ∙ old (p n) (is_from lo hi n) y) in
          elim out as (λ _. Goal) [ inl l ↦ omega (arith, rest, e, f, new, l) | inr l ↦ omega (arith, rest, e, f, new, l) ]
    ] in
    ap (count_below q) long ∙ (all ∙ ap₂ (λ (k m : ℕ). count_below p k + (min hi m - lo)) (sym long) (sym long))

-- of the numbers from one on those from one up to another pass
pub count-ahead : (p : ℕ → Bool) (lo hi a n : ℕ) → ((k : ℕ) → a ≤ k → k < a + n → p k ≡ is_from lo hi k) → count_below p (a + n) ≡ count_below p a + (min hi (a + n) - max a lo)
count-ahead p lo hi a zero same =
    let none : a + 0 ≡ a = omega arith in
    ap (count_below p) none ∙ omega arith
count-ahead p lo hi a (suc n) same =
    let long : a + suc n ≡ a + n + 1 = omega arith in
    let rest = count-ahead p lo hi a n (λ k up low. same k up (omega (arith, low))) in
    let e = count-more p (a + n) in
    let here = same (a + n) (omega arith) (omega arith) in
    let Goal : Type 0 = count_below p (a + n + 1) ≡ count_below p a + (min hi (a + n + 1) - max a lo) in
    let all : Goal = elim (test_or (is_from lo hi (a + n))) as (λ _. Goal) [
      | inl y ↦
          let low = from-low lo hi (a + n) y in
          let high = from-high lo hi (a + n) y in
          let new : cond (p (a + n)) 1 0 ≡ 1 = ap {B = ℕ} (λ b. cond b 1 0) (here ∙ y) in
          omega (arith, rest, e, low, high, new)
      | inr y ↦
          let new : cond (p (a + n)) 1 0 ≡ 0 = ap {B = ℕ} (λ b. cond b 1 0) (here ∙ y) in
          elim (outside lo hi (a + n) y) as (λ _. Goal) [ inl l ↦ omega (arith, rest, e, new, l) | inr l ↦ omega (arith, rest, e, new, l) ]
    ] in
    ap (count_below p) long ∙ (all ∙ ap (λ (m : ℕ). count_below p a + (min hi m - max a lo)) (sym long))
