-- A list by names and then by numbers is the one that a stable sort by names gives.
use Rattle.std.proofs.Common.{◌≡◌, ◌==◌, ℕ, zero, suc, ◌+◌, ◌≤◌, ◌<◌, Bool, true, false, cond, List, [], ◌∷◌, length, map, inl, inr, refl, ap, ap₂, sym, ◌∙◌, subst, arith, Ordering, Less, Equal, Greater}
use Rattle.std.specs.Prelude.{slice_index_or, All}
use Rattle.std.specs.List.Sorted.{IsPermutation, IsSortedBy}
use Rattle.std.specs.Ordering.{nat_cmp, is_gt, is_lt, ordering_then, ordering_reverse}
use Rattle.std.specs.Cmp.{IsTotalOrder, IsStrictWeakOrder}
use Rattle.std.specs.Cmp.Lexicographic.{slice_cmp, nat_list_cmp_total}
use Rattle.std.proofs.lemmas.Cmp.{nat_cmp_total, then_total, on_total}
use Rattle.std.proofs.lemmas.List.MinMax.{ranks_by}
use Rattle.std.proofs.lemmas.List.Sorted.{All-permutation, sum_by-IsPermutation}
use Rattle.apfs_model.specs.Lists.{In}
use Rattle.apfs_model.proofs.BoolTests.{clash, from-equal, equal-from, from-below}
use Rattle.path_search.specs.Order.{is_after, put_in, by_name}
use Rattle.path_search.specs.Parts.{numbered}
use Rattle.path_search.specs.declared.order.Numbered.{Numbered}
use Rattle.path_search.specs.declared.target.Target.{Target}
use Rattle.path_search.proofs.Listed.{name_map}
use Rattle.path_search.proofs.Tallies.{bit, tally, tally-is, tally-cons, tally-nil, tally-in, tally-by, tally-some, in-put, in-by}

-- the names of two targets as they compare, and then their numbers
abbrev pub compared : Numbered → Numbered → Ordering
compared x y = ordering_then (slice_cmp nat_cmp x.target.name y.target.name) (nat_cmp x.number y.number)

abbrev compared-total : IsTotalOrder compared
compared-total = then_total (on_total (λ (t : Numbered). t.target.name) nat_list_cmp_total) (on_total (λ (t : Numbered). t.number) nat_cmp_total)

-- a target stands before another
abbrev pub comes_before : Numbered → Numbered → Bool
comes_before x y = is_lt (compared x y)

pub before_order : IsStrictWeakOrder comes_before
before_order = ranks_by compared-total (λ (t : Numbered). t)

-- ---- what a list has, and how often
here : {X : Type 0} (xs : List X) (k : ℕ) (d : X) → k < length xs → In (slice_index_or xs k d) xs
here [] k d low = absurd (omega arith)
here (x ∷ xs) zero d low = inl refl
here (x ∷ xs) (suc k) d low = inr (here xs k d (omega arith))

of-all : {X : Type 0} (P : X → Type 0) (xs : List X) → All P xs → (x : X) → In x xs → P x
of-all P [] all x h = absurd h
of-all P (y ∷ ys) all x (inl e) = subst P (sym e) (all 0 y (omega arith))
of-all P (y ∷ ys) all x (inr h) = of-all P ys (λ k d low. all (suc k) d (omega arith)) x h

moved-in : {X : Type 0} (xs ys : List X) → IsPermutation xs ys → (x : X) → In x ys → In x xs
moved-in {X} xs ys moves x h = of-all (λ (y : X). In y xs) ys (All-permutation (λ (y : X). In y xs) xs ys moves (λ k d low. here xs k d low)) x h

-- of a number
abbrev is_number : ℕ → Numbered → Bool
is_number n x = x.number == n

moved-tally : (xs ys : List Numbered) → IsPermutation xs ys → (n : ℕ) → tally (is_number n) ys ≡ tally (is_number n) xs
moved-tally xs ys moves n = sym (tally-is (is_number n) ys) ∙ (sum_by-IsPermutation (λ (x : Numbered). cond (is_number n x) 1 0) xs ys moves ∙ tally-is (is_number n) xs)

-- ---- numbers tell targets apart
numbered-high : (n : ℕ) (ts : List Target) (x : Numbered) → In x (numbered n ts) → n ≤ x.number
numbered-high n [] x h = absurd h
numbered-high n (t ∷ ts) x (inl e) = let s : x.number ≡ n = ap (λ (y : Numbered). y.number) e in omega arith
numbered-high n (t ∷ ts) x (inr h) = let r = numbered-high (suc n) ts x h in omega arith

numbered-one : (n : ℕ) (ts : List Target) (x y : Numbered) → In x (numbered n ts) → In y (numbered n ts) → x.number ≡ y.number → x ≡ y
numbered-one n [] x y h k s = absurd h
numbered-one n (t ∷ ts) x y (inl e) (inl f) s = e ∙ sym f
numbered-one n (t ∷ ts) x y (inl e) (inr k) s = let a : x.number ≡ n = ap (λ (z : Numbered). z.number) e in let b = numbered-high (suc n) ts y k in absurd (omega arith)
numbered-one n (t ∷ ts) x y (inr h) (inl f) s = let a : y.number ≡ n = ap (λ (z : Numbered). z.number) f in let b = numbered-high (suc n) ts x h in absurd (omega arith)
numbered-one n (t ∷ ts) x y (inr h) (inr k) s = numbered-one (suc n) ts x y h k s

targets-of : (n : ℕ) (ts : List Target) → map (λ (x : Numbered). x.target) (numbered n ts) ≡ ts
targets-of n [] = refl
targets-of n (t ∷ ts) = ap (λ (l : List Target). t ∷ l) (targets-of (suc n) ts)

found-in : (n : ℕ) (ts : List Target) (x : Numbered) (ys : List Numbered) → In x (numbered n ts) → ((y : Numbered) → In y ys → In y (numbered n ts)) → 1 ≤ tally (is_number x.number) ys → In x ys
found-in n ts x ys h all low =
    let t = tally-some (is_number x.number) ys low in
    subst (λ (w : Numbered). In w ys) (numbered-one n ts t.0 x (all t.0 t.1.0) h (equal-from t.0.number x.number t.1.1)) t.1.0

-- ---- lists in that order
lt-less : (r : Ordering) → is_lt r ≡ true → r ≡ Less
lt-less Less e = refl
lt-less order e = absurd cc

gt-greater : (r : Ordering) → is_gt r ≡ true → r ≡ Greater
gt-greater Greater e = refl
gt-greater order e = absurd cc

number-less : (a b : ℕ) → a < b → is_lt (nat_cmp a b) ≡ true
number-less a b low = ap (λ (t : Bool). is_lt (cond t Less (cond (a == b) Equal Greater))) (from-below a b low)

abbrev name_of : Numbered → List ℕ
name_of t = t.target.name

after-before : (x z : Numbered) → is_after name_of x z ≡ true → comes_before z x ≡ true
after-before x z e =
    let less : slice_cmp nat_cmp (name_of z) (name_of x) ≡ Less = nat_list_cmp_total.antisymm (name_of z) (name_of x) ∙ ap ordering_reverse (gt-greater (slice_cmp nat_cmp (name_of x) (name_of z)) e) in
    ap (λ (r : Ordering). is_lt (ordering_then r (nat_cmp z.number x.number))) less

upto-before : (x z : Numbered) → is_after name_of x z ≡ false → x.number < z.number → comes_before x z ≡ true
upto-before x z e low =
    let go : (r : Ordering) → is_gt r ≡ false → is_lt (ordering_then r (nat_cmp x.number z.number)) ≡ true = λ r. elim r as (λ r. is_gt r ≡ false → is_lt (ordering_then r (nat_cmp x.number z.number)) ≡ true) [
      | Less ↦ λ g. refl
      | Equal ↦ λ g. number-less x.number z.number low
      | Greater ↦ λ g. absurd (clash (is_gt Greater) refl g)
    ] in
    go (slice_cmp nat_cmp (name_of x) (name_of z)) e

before-on : (x y z : Numbered) → comes_before x y ≡ true → comes_before y z ≡ true → comes_before x z ≡ true
before-on x y z e f = ap is_lt (compared-total.trans x y z (lt-less (compared x y) e) (lt-less (compared y z) f))

abbrev Strict : List Numbered → Type 0
Strict [] = Unit {0}
Strict (x ∷ xs) = ((y : Numbered) → In y xs → comes_before x y ≡ true) × Strict xs

abbrev Weak : List Numbered → Type 0
Weak [] = Unit {0}
Weak (x ∷ xs) = ((y : Numbered) → In y xs → comes_before y x ≡ false) × Weak xs

strict-put : (x : Numbered) (zs : List Numbered) → Strict zs → ((z : Numbered) → In z zs → x.number < z.number) → Strict (put_in name_of x zs)
strict-put x [] r low = (λ y h. absurd h, tt)
strict-put x (z ∷ zs) r low =
    let go : (b : Bool) → is_after name_of x z ≡ b → Strict (cond b (z ∷ put_in name_of x zs) (x ∷ z ∷ zs)) = λ b. elim b as (λ b. is_after name_of x z ≡ b → Strict (cond b (z ∷ put_in name_of x zs) (x ∷ z ∷ zs))) [
      | true ↦ λ e. (
        λ w h. elim (in-put name_of x zs w h) as (λ _. comes_before z w ≡ true) [
          | inl s ↦ subst (λ (v : Numbered). comes_before z v ≡ true) (sym s) (after-before x z e)
          | inr m ↦ r.0 w m
        ],
        strict-put x zs r.1 (λ w m. low w (inr m)),
      )
      | false ↦ λ e. (
        λ w h. elim h as (λ _. comes_before x w ≡ true) [
          | inl s ↦ subst (λ (v : Numbered). comes_before x v ≡ true) (sym s) (upto-before x z e (low z (inl refl)))
          | inr m ↦ before-on x z w (upto-before x z e (low z (inl refl))) (r.0 w m)
        ],
        r,
      )
    ] in
    go (is_after name_of x z) refl

strict-by : (n : ℕ) (ts : List Target) → Strict (by_name name_of (numbered n ts))
strict-by n [] = tt
strict-by n (t ∷ ts) =
    strict-put (record { number = n; target = t }) (by_name name_of (numbered (suc n) ts)) (strict-by (suc n) ts)
    (λ z h. let k = numbered-high (suc n) ts z (in-by name_of (numbered (suc n) ts) z h) in omega arith)

one-on : (y : Numbered) (ys : List Numbered) (k : ℕ) (d : Numbered) → slice_index_or (y ∷ ys) (suc k + 1) d ≡ slice_index_or ys (k + 1) d
one-on y ys k d = let e : suc k + 1 ≡ suc (k + 1) = omega arith in ap (λ n. slice_index_or (y ∷ ys) n d) e

none-before : (y z : Numbered) (zs : List Numbered) → comes_before z y ≡ false → Weak (z ∷ zs) → (w : Numbered) → In w (z ∷ zs) → comes_before w y ≡ false
none-before y z zs e r w (inl s) = subst (λ (v : Numbered). comes_before v y ≡ false) (sym s) e
none-before y z zs e r w (inr m) = before_order.chain w z y (r.0 w m) e

weak-from : (ys : List Numbered) → IsSortedBy comes_before ys → Weak ys
weak-from [] s = tt
weak-from (y ∷ []) s = (λ z h. absurd h, tt)
weak-from (y ∷ z ∷ zs) s =
    let first : comes_before z y ≡ false = s 0 y (omega arith) (omega arith) in
    let rest : Weak (z ∷ zs) = weak-from (z ∷ zs) (λ k d low high. ap (λ (w : Numbered). comes_before w (slice_index_or (z ∷ zs) k d)) (sym (one-on y (z ∷ zs) k d)) ∙ s (suc k) d (omega arith) (omega arith)) in
    (none-before y z zs first rest, rest)

-- of the same targets there is one list in that order
same-list : (n : ℕ) (ts : List Target) (zs ys : List Numbered) → Strict zs → Weak ys → ((z : Numbered) → In z zs → In z (numbered n ts)) → ((y : Numbered) → In y ys → In y (numbered n ts)) → ((k : ℕ) → tally (is_number k) zs ≡ tally (is_number k) ys) → zs ≡ ys
same-list n ts [] [] r s a b e = refl
same-list n ts [] (y ∷ ys) r s a b e =
    let none = tally-nil (is_number y.number) in
    let some = tally-in (is_number y.number) (y ∷ ys) y (inl refl) (from-equal y.number y.number refl) in
    let both = e y.number in absurd (omega arith)
same-list n ts (z ∷ zs) [] r s a b e =
    let none = tally-nil (is_number z.number) in
    let some = tally-in (is_number z.number) (z ∷ zs) z (inl refl) (from-equal z.number z.number refl) in
    let both = e z.number in absurd (omega arith)
same-list n ts (z ∷ zs) (y ∷ ys) r s a b e =
    let some_z = tally-in (is_number z.number) (z ∷ zs) z (inl refl) (from-equal z.number z.number refl) in
    let some_y = tally-in (is_number y.number) (y ∷ ys) y (inl refl) (from-equal y.number y.number refl) in
    let same_z = e z.number in
    let same_y = e y.number in
    let z_there : In z (y ∷ ys) = found-in n ts z (y ∷ ys) (a z (inl refl)) b (omega arith) in
    let y_there : In y (z ∷ zs) = found-in n ts y (z ∷ zs) (b y (inl refl)) a (omega arith) in
    let same : z ≡ y = elim z_there as (λ _. z ≡ y) [
      | inl f ↦ f
      | inr h ↦ elim y_there as (λ _. z ≡ y) [ inl g ↦ sym g | inr k ↦ absurd (clash (comes_before z y) (r.0 y k) (s.0 z h)) ]
    ] in
    let rest : (k : ℕ) → tally (is_number k) zs ≡ tally (is_number k) ys = λ k.
    let one = tally-cons (is_number k) z zs in
    let two = tally-cons (is_number k) y ys in
    let bits : bit (is_number k z) ≡ bit (is_number k y) = ap (λ (w : Numbered). bit (is_number k w)) same in
    let both = e k in omega arith in
    ap₂ (λ (w : Numbered) (l : List Numbered). w ∷ l) same (same-list n ts zs ys r.1 s.1 (λ w h. a w (inr h)) (λ w h. b w (inr h)) rest)

-- what a sort by names and then by numbers gives is the list by names
pub sorted_by_number : (ts : List Target) (xs ys : List Numbered) → xs ≡ numbered 0 ts → IsPermutation xs ys → IsSortedBy comes_before ys → map (λ (x : Numbered). x.target) ys ≡ by_name (λ (t : Target). t.name) ts
sorted_by_number ts xs ys e moves sorted =
    let moved : IsPermutation (numbered 0 ts) ys = subst (λ (l : List Numbered). IsPermutation l ys) e moves in
    let same : by_name name_of (numbered 0 ts) ≡ ys =
    same-list 0 ts (by_name name_of (numbered 0 ts)) ys (strict-by 0 ts) (weak-from ys sorted) (λ z h. in-by name_of (numbered 0 ts) z h) (λ y h. moved-in (numbered 0 ts) ys moved y h)
    (λ k. tally-by (is_number k) name_of (numbered 0 ts) ∙ sym (moved-tally (numbered 0 ts) ys moved k)) in
    ap (map (λ (x : Numbered). x.target)) (sym same)
    ∙ (sym (name_map (λ (x : Numbered). x.target) (λ (t : Target). t.name) (numbered 0 ts)) ∙ ap (by_name (λ (t : Target). t.name)) (targets-of 0 ts))
