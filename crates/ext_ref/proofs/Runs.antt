-- Spans that are apart are the longest runs of their blocks.
use Rattle.std.specs.Prelude.{◌≡◌, ℕ, zero, suc, ◌+◌, ◌-◌, ◌≤◌, ◌<◌, ◌==◌, ◌||◌, Bool, true, false, cond, nat_le, nat_lt, List, [], ◌∷◌, ◌++◌, length, map, filter, refl, if◌then◌else◌}
use Rattle.std.specs.List.{range_with_len, list_any, All}
use Rattle.std.proofs.Common.{arith, ap, sym, subst, ◌∙◌, inl, inr, get_or}
use Rattle.std.proofs.lemmas.List.Elements.{filter-append, All-head, All-tail}
use Rattle.std.proofs.lemmas.List.Folds.{list_any_none, list_any_at}
use Rattle.apfs_model.specs.Lists.{In}
use Rattle.apfs_model.proofs.BoolTests.{test_or, from-range, from-equal, never-true, equal-from, below-from, right-true}
use Rattle.ext_ref.specs.Cover.{is_owned, range_has}
use Rattle.ext_ref.specs.Unreached.{runs_of, before_runs, end_of_ranges}
use Rattle.ext_ref.specs.Spans.{span_has, is_spanned, AreApart}
use Rattle.ext_ref.specs.Left.{AreFull, run_of}
use Rattle.ext_ref.specs.declared.range.NewRange.{NewRange}
use Rattle.ext_ref.specs.declared.covering.Span.{Span}
use Rattle.ext_ref.proofs.Spans.{span-before, span-after, span-in}

zero-plus : (k : ℕ) → 0 + k ≡ k
zero-plus k = omega arith

plus-zero : (k : ℕ) → k ≡ k + 0
plus-zero k = omega arith

suc-plus : (k l : ℕ) → suc k + l ≡ suc (k + l)
suc-plus k l = omega arith

plus-suc : (k l : ℕ) → (k + 1) + l ≡ k + suc l
plus-suc k l = omega arith

plus-one : (k : ℕ) → k + 1 ≡ suc k
plus-one k = omega arith

one-more : (k : ℕ) → k + suc zero ≡ k + 1
one-more k = omega arith

shift : (k m : ℕ) → k + suc (suc m) ≡ (k + 1) + suc m
shift k m = omega arith

-- the numbers of two ranges that follow one another
range-append : (a m n : ℕ) → range_with_len a (m + n) ≡ range_with_len a m ++ range_with_len (a + m) n
range-append a zero n = ap (λ (k : ℕ). range_with_len a k) (zero-plus n) ∙ ap (λ (k : ℕ). range_with_len k n) (plus-zero a)
range-append a (suc m) n =
    ap (λ (k : ℕ). range_with_len a k) (suc-plus m n)
    ∙ (ap (λ (ks : List ℕ). a ∷ ks) (range-append (a + 1) m n)
    ∙ ap (λ (k : ℕ). a ∷ (range_with_len (a + 1) m ++ range_with_len k n)) (plus-suc a m))

-- the lower bound of the numbers of a range
range-low : (a n k : ℕ) → In k (range_with_len a n) → a ≤ k
range-low a zero k h = absurd h
range-low a (suc n) k (inl e) = omega arith
range-low a (suc n) k (inr h) = let l : a + 1 ≤ k = range-low (a + 1) n k h in omega arith

filter-same : (p q : ℕ → Bool) (ns : List ℕ) → ((k : ℕ) → In k ns → p k ≡ q k) → filter p ns ≡ filter q ns
filter-same p q [] same = refl
filter-same p q (n ∷ ns) same =
    ap (λ (b : Bool). cond b (n ∷ filter p ns) (filter p ns)) (same n (inl refl)) ∙ ap (λ (ks : List ℕ). cond (q n) (n ∷ ks) ks) (filter-same p q ns (λ k h. same k (inr h)))

filter-none : (p : ℕ → Bool) (ns : List ℕ) → ((k : ℕ) → In k ns → p k ≡ false) → filter p ns ≡ []
filter-none p [] none = refl
filter-none p (n ∷ ns) none = ap (λ (b : Bool). cond b (n ∷ filter p ns) (filter p ns)) (none n (inl refl)) ∙ filter-none p ns (λ k h. none k (inr h))

filter-all : (p : ℕ → Bool) (ns : List ℕ) → ((k : ℕ) → In k ns → p k ≡ true) → filter p ns ≡ ns
filter-all p [] all = refl
filter-all p (n ∷ ns) all = ap (λ (b : Bool). cond b (n ∷ filter p ns) (filter p ns)) (all n (inl refl)) ∙ ap (λ (ks : List ℕ). n ∷ ks) (filter-all p ns (λ k h. all k (inr h)))

-- a run doesn't begin at a number
abbrev NotFrom : ℕ → List (ℕ × ℕ) → Type 0
NotFrom n [] = Unit {0}
NotFrom n (r ∷ rs) = (n == r.0) ≡ false

run-one : (first : ℕ) (rs : List (ℕ × ℕ)) → NotFrom (first + 1) rs → before_runs first rs ≡ (first, 1) ∷ rs
run-one first [] h = refl
run-one first (r ∷ rs) h = ap (λ (b : Bool). if b then (first, r.1 + 1) ∷ rs else (first, 1) ∷ r ∷ rs) h

run-more : (first l : ℕ) (rs : List (ℕ × ℕ)) → before_runs first ((first + 1, suc l) ∷ rs) ≡ (first, suc (suc l)) ∷ rs
run-more first l rs =
    ap (λ (b : Bool). if b then (first, suc l + 1) ∷ rs else (first, 1) ∷ (first + 1, suc l) ∷ rs) (from-equal (first + 1) (first + 1) refl)
    ∙ ap (λ (n : ℕ). (first, n) ∷ rs) (plus-one (suc l))

-- the run of a range before others that it doesn't meet
runs-range : (first l : ℕ) (ns : List ℕ) (rs : List (ℕ × ℕ)) → runs_of ns ≡ rs → NotFrom (first + suc l) rs → runs_of (range_with_len first (suc l) ++ ns) ≡ (first, suc l) ∷ rs
runs-range first zero ns rs e apart = ap (before_runs first) e ∙ run-one first rs (subst (λ (n : ℕ). NotFrom n rs) (one-more first) apart)
runs-range first (suc l) ns rs e apart =
    ap (before_runs first) (runs-range (first + 1) l ns rs e (subst (λ (n : ℕ). NotFrom n rs) (shift first l) apart)) ∙ run-more first l rs

-- of spans that are apart, those after the first
apart-rest : (s : Span) (spans : List Span) → AreApart (s ∷ spans) → AreApart spans
apart-rest s spans h = record {
  proper = All-tail (λ (t : Span). t.first ≤ t.end) s spans h.proper;
  apart = λ i j d low high. h.apart (suc i) (suc j) d (omega (arith, low)) (omega (arith, high));
}

apart-first : (s : Span) (spans : List Span) → AreApart (s ∷ spans) → All (λ (t : Span). s.end < t.first) spans
apart-first s spans h = λ k d low. h.apart 0 (suc k) d (omega arith) (omega (arith, low))

none-after : (s : Span) (spans : List Span) (k : ℕ) → All (λ (t : Span). s.end < t.first) spans → k ≤ s.end → is_spanned spans k ≡ false
none-after s spans k after low = list_any_none (span_has k) spans (λ i d less. span-before k (get_or spans i d) (let h : s.end < (get_or spans i d).first = after i d less in omega (arith, h)))

not-from : (s : Span) (spans : List Span) → All (λ (t : Span). s.end < t.first) spans → NotFrom s.end (map run_of spans)
not-from s [] h = tt
not-from s (t ∷ spans) h = let less : s.end < t.first = All-head (λ (u : Span). s.end < u.first) t spans h in never-true (s.end == t.first) (λ e. let same : s.end ≡ t.first = equal-from s.end t.first e in absurd (omega arith))

-- the spans, as the longest runs of the numbers from a on that they have
runs-spans : (spans : List Span) (a n : ℕ) → AreApart spans → AreFull spans → All (λ (s : Span). a ≤ s.first) spans → All (λ (s : Span). s.end ≤ a + n) spans → runs_of (filter (is_spanned spans) (range_with_len a n)) ≡ map run_of spans
runs-spans [] a n apart full from to = ap runs_of (filter-none (is_spanned []) (range_with_len a n) (λ k h. refl))
runs-spans (s ∷ spans) a n apart full from to =
    let test = is_spanned (s ∷ spans) in
    let rest = is_spanned spans in
    let after : All (λ (t : Span). s.end < t.first) spans = apart-first s spans apart in
    let some : s.first < s.end = All-head (λ (t : Span). t.first < t.end) s spans full in
    let low : a ≤ s.first = All-head (λ (t : Span). a ≤ t.first) s spans from in
    let high : s.end ≤ a + n = All-head (λ (t : Span). t.end ≤ a + n) s spans to in
    let l : ℕ = (s.end - s.first) - 1 in
    let m : ℕ = (a + n) - s.end in
    let before : ℕ = s.first - a in
    let ends : s.first + suc l ≡ s.end = omega arith in
    let split : n ≡ before + (suc l + m) = omega arith in
    let at : a + before ≡ s.first = omega arith in
    let parts : range_with_len a n ≡ range_with_len a before ++ (range_with_len s.first (suc l) ++ range_with_len s.end m) =
    ap (λ (k : ℕ). range_with_len a k) split
    ∙ (range-append a before (suc l + m)
    ∙ (ap (λ (k : ℕ). range_with_len a before ++ range_with_len k (suc l + m)) at
    ∙ (ap (λ (ks : List ℕ). range_with_len a before ++ ks) (range-append s.first (suc l) m)
    ∙ ap (λ (k : ℕ). range_with_len a before ++ (range_with_len s.first (suc l) ++ range_with_len k m)) ends))) in
    let first : filter test (range_with_len a before) ≡ [] =
    filter-none test (range_with_len a before) (λ k h.
    let less : k < a + before = from-range a before k h in
    let under : k < s.first = omega arith in
    ap (λ (b : Bool). b || rest k) (span-before k s under) ∙ none-after s spans k after (omega arith)) in
    let middle : filter test (range_with_len s.first (suc l)) ≡ range_with_len s.first (suc l) =
    filter-all test (range_with_len s.first (suc l)) (λ k h.
    let least : s.first ≤ k = range-low s.first (suc l) k h in
    let less : k < s.first + suc l = from-range s.first (suc l) k h in
    ap (λ (b : Bool). b || rest k) (span-in k s least (omega arith))) in
    let last : filter test (range_with_len s.end m) ≡ filter rest (range_with_len s.end m) =
    filter-same test rest (range_with_len s.end m) (λ k h.
    let least : s.end ≤ k = range-low s.end m k h in
    ap (λ (b : Bool). b || rest k) (span-after k s least)) in
    let all : filter test (range_with_len a n) ≡ range_with_len s.first (suc l) ++ filter rest (range_with_len s.end m) =
    ap (filter test) parts
    ∙ (filter-append test (range_with_len a before) (range_with_len s.first (suc l) ++ range_with_len s.end m)
    ∙ (ap (λ (ks : List ℕ). ks ++ filter test (range_with_len s.first (suc l) ++ range_with_len s.end m)) first
    ∙ (filter-append test (range_with_len s.first (suc l)) (range_with_len s.end m)
    ∙ (ap (λ (ks : List ℕ). ks ++ filter test (range_with_len s.end m)) middle ∙ ap (λ (ks : List ℕ). range_with_len s.first (suc l) ++ ks) last)))) in
    let later : runs_of (filter rest (range_with_len s.end m)) ≡ map run_of spans =
    runs-spans spans s.end m (apart-rest s spans apart) (All-tail (λ (t : Span). t.first < t.end) s spans full)
    (λ k d less. let h : s.end < (get_or spans k d).first = after k d less in omega (arith, h))
    (λ k d less. let h : (get_or spans k d).end ≤ a + n = to (suc k) d (omega (arith, less)) in omega (arith, h, high)) in
    let long : s.end - s.first ≡ suc l = omega arith in
    ap runs_of all
    ∙ (runs-range s.first l (filter rest (range_with_len s.end m)) (map run_of spans) later (subst (λ (k : ℕ). NotFrom k (map run_of spans)) (sym ends) (not-from s spans after))
    ∙ ap (λ (k : ℕ). (s.first, k) ∷ map run_of spans) (sym long))

-- an owned block comes before the ranges' greatest end
pub owned-below : (ranges : List NewRange) (block : ℕ) → is_owned ranges block ≡ true → block < end_of_ranges ranges
unfolding is_owned
owned-below [] block e = absurd (cc)
owned-below (r ∷ rs) block e = elim (test_or (range_has block r)) as (λ _. block < end_of_ranges (r ∷ rs)) [
  | inl t ↦ let h : block < r.first + r.length = below-from block (r.first + r.length) (right-true (nat_le r.first block) (nat_lt block (r.first + r.length)) t) in omega arith
  | inr f ↦ let h : block < end_of_ranges rs = owned-below rs block (sym (ap (λ (b : Bool). b || list_any (range_has block) rs) f) ∙ e) in omega arith
]

-- spans that have exactly the blocks of a test are its longest runs up to a bound that none of them passes
pub last-in : (spans : List Span) (k : ℕ) (d : Span) → AreFull spans → k < length spans → is_spanned spans ((get_or spans k d).end - 1) ≡ true
last-in spans k d full low =
    let s = get_or spans k d in
    let some : s.first < s.end = full k d low in
    list_any_at (span_has (s.end - 1)) spans k d low (span-in (s.end - 1) s (omega arith) (omega arith))

pub runs-left : (test : ℕ → Bool) (bound : ℕ) (spans : List Span) → AreApart spans → AreFull spans → ((k : ℕ) → is_spanned spans k ≡ test k) → ((k : ℕ) → test k ≡ true → k < bound) → map run_of spans ≡ runs_of (filter test (range_with_len 0 bound))
runs-left test bound spans apart full same below =
    sym (ap runs_of (filter-same test (is_spanned spans) (range_with_len 0 bound) (λ k h. sym (same k)))
    ∙ runs-spans spans 0 bound apart full (λ k d low. omega arith)
    (λ k d low.
    let s = get_or spans k d in
    let some : s.first < s.end = full k d low in
    let last : s.end - 1 < bound = below (s.end - 1) (sym (same (s.end - 1)) ∙ last-in spans k d full low) in
    omega arith))
