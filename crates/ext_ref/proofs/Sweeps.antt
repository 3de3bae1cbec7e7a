-- How many streams touch spans, by the places between which the spans stand that a stream touches.
use Rattle.std.specs.Prelude.{◌≡◌, ◌↔◌, ℕ, suc, ◌+◌, ◌-◌, ◌≤◌, ◌<◌, ◌==◌, ◌||◌, ◌&&◌, not, min, max, Bool, true, false, cond, nat_le, nat_lt, List, [], ◌∷◌, ◌++◌, length, map, filter, count_by, slice_range, refl}
use Rattle.std.specs.List.{list_any}
use Rattle.std.specs.List.Sorted.{IsPermutation, IsPartitionPoint}
use Rattle.std.proofs.Common.{arith, ap, sym, subst, ◌∙◌, inl, inr, get_or, take, drop}
use Rattle.std.proofs.lemmas.Bool.{cases_lt, le-ltb}
use Rattle.std.proofs.lemmas.List.{get_or-take, get_or-drop, length-take, get_or_append_left, get_or_default, length-append}
use Rattle.std.proofs.Math.Seq.{get_or-append_seam}
use Rattle.std.proofs.lemmas.List.Elements.{All-head, All-tail}
use Rattle.std.proofs.lemmas.List.Folds.{list_any_none, list_any_more}
use Rattle.std.proofs.lemmas.List.Sorted.{list_any-IsPermutation, sum_by-IsPermutation}
use Rattle.std.proofs.lemmas.List.Sums.{sum_by-cons, sum_by-append, length-filter, count_by_more_yes, count_by_more_no}
use Rattle.apfs_model.specs.Apart.{Apart}
use Rattle.apfs_model.specs.Lists.{In, has, distinct}
use Rattle.apfs_model.proofs.BoolTests.{test_or, never-true, clash, equal-from, from-equal, right-true, below-from, from-below, upto-from, from-upto}
use Rattle.apfs_model.proofs.Finite.{apart-same, apart-filter}
use Rattle.apfs_model.proofs.Searches.{in-has, has-in, filter-test, in-filter}
use Rattle.fs_record.specs.StreamExtents.{is_hole}
use Rattle.fs_record.specs.declared.extents.FileExt.{FileExt}
use Rattle.ext_ref.specs.Cover.{range_has}
use Rattle.ext_ref.specs.Spans.{span_of, span_has, is_spanned, AreProper, AreApart}
use Rattle.ext_ref.specs.References.{end_of, touches, streams_of}
use Rattle.ext_ref.specs.Sweep.{meets, streams_at, is_of, AreRising, AreCounts}
use Rattle.ext_ref.specs.declared.range.NewRange.{NewRange}
use Rattle.ext_ref.specs.declared.covering.Span.{Span}
use Rattle.ext_ref.proofs.Counted.{into-distinct, from-distinct, apart-distinct}
use Rattle.ext_ref.proofs.Left.{spanned-push, or-none}
use Rattle.ext_ref.proofs.Spans.{span-before, span-after, span-in}
use Rattle.ext_ref.proofs.Touched.{has-of, window}

-- a list of one more
one-more : {X : Type 0} (p : X → Bool) (x : X) (xs : List X) → count_by p (x ∷ xs) ≡ cond (p x) 1 0 + count_by p xs
one-more p x xs = sum_by-cons (λ y. cond (p y) 1 0) x xs

not-below : (k n : ℕ) → n ≤ k → nat_lt k n ≡ false
not-below k n h = le-ltb k n h

not-upto : (n k : ℕ) → k < n → nat_le n k ≡ false
not-upto n k h = never-true (nat_le n k) (λ e. let t : n ≤ k = upto-from n k e in absurd (omega arith))

-- a place is in a range of places, or not
place-in : (i low high : ℕ) → low ≤ i → i < high → (nat_le low i && nat_lt i (low + (high - low))) ≡ true
place-in i low high a b =
    let c : i < low + (high - low) = omega arith in
    (λ j. from-upto low i a j && from-below i (low + (high - low)) c j)

place-before : (i low n : ℕ) → i < low → (nat_le low i && nat_lt i (low + n)) ≡ false
place-before i low n a = ap (λ (b : Bool). b && nat_lt i (low + n)) (not-upto low i a)

and-false : (b : Bool) → (b && false) ≡ false
and-false true = refl
and-false false = refl

place-after : (i low high : ℕ) → low ≤ i → high ≤ i → (nat_le low i && nat_lt i (low + (high - low))) ≡ false
place-after i low high a b =
    let c : low + (high - low) ≤ i = omega arith in
    ap (λ (t : Bool). nat_le low i && t) (not-below i (low + (high - low)) c) ∙ and-false (nat_le low i)

-- an extent other than a hole meets a span where neither ends before the other begins
meets-so : (block_size : ℕ) (s : Span) (x : ℕ × FileExt) → (x.1.block == 0) ≡ false → max s.first x.1.block < min s.end (end_of block_size x.1) → meets block_size s x ≡ true
unfolding meets
meets-so block_size s x some less = (λ j. not (some j) && from-below (max s.first x.1.block) (min s.end (end_of block_size x.1)) less j)

meets-not : (block_size : ℕ) (s : Span) (x : ℕ × FileExt) → min s.end (end_of block_size x.1) ≤ max s.first x.1.block → meets block_size s x ≡ false
unfolding meets
meets-not block_size s x more = ap (λ (b : Bool). not (is_hole x.1) && b) (not-below (max s.first x.1.block) (min s.end (end_of block_size x.1)) more) ∙ and-false (not (is_hole x.1))

meets-hole : (block_size : ℕ) (s : Span) (x : ℕ × FileExt) → x.1.block ≡ 0 → meets block_size s x ≡ false
unfolding meets
meets-hole block_size s x none = ap (λ (b : Bool). not b && nat_lt (max s.first x.1.block) (min s.end (end_of block_size x.1))) (from-equal x.1.block 0 none)

-- the spans that an extent meets are those that don't end by its first block and begin before its end
pub meets-between : (block_size : ℕ) (spans : List Span) (x : ℕ × FileExt) (low high i : ℕ) (d : Span) → AreRising spans → i < length spans
    → IsPartitionPoint (λ (s : Span). nat_le s.end x.1.block ≡ true) (λ (s : Span). nat_le s.end x.1.block ≡ false) spans low
    → IsPartitionPoint (λ (s : Span). nat_lt s.first (end_of block_size x.1) ≡ true) (λ (s : Span). nat_lt s.first (end_of block_size x.1) ≡ false) spans high
    → (x.1.block == 0) ≡ false → x.1.block < end_of block_size x.1
    → (nat_le low i && nat_lt i (low + (high - low))) ≡ meets block_size (get_or spans i d) x
meets-between block_size spans x low high i d rising inside before after some full =
    let s : Span = get_or spans i d in
    elim (cases_lt i low) as (λ _. (nat_le low i && nat_lt i (low + (high - low))) ≡ meets block_size s x) [
      | inl less ↦
          let ended : s.end ≤ x.1.block = upto-from s.end x.1.block (before.0 i d (omega arith) less) in
          place-before i low (high - low) less ∙ sym (meets-not block_size s x (omega arith))
      | inr from ↦ elim (cases_lt i high) as (λ _. (nat_le low i && nat_lt i (low + (high - low))) ≡ meets block_size s x) [
        | inl less ↦
            let under : x.1.block < s.end = not-ended s.end x.1.block (before.1 i d from inside) in
            let begun : s.first < end_of block_size x.1 = below-from s.first (end_of block_size x.1) (after.0 i d (omega arith) less) in
            let has : s.first < s.end = rising.full i d inside in
            place-in i low high from less ∙ sym (meets-so block_size s x some (omega (arith, under, begun, has, full)))
        | inr past ↦
            let later : end_of block_size x.1 ≤ s.first = not-begun s.first (end_of block_size x.1) (after.1 i d past inside) in
            place-after i low high from past ∙ sym (meets-not block_size s x (omega arith))
      ]
    ]
  where
    not-ended : (n k : ℕ) → nat_le n k ≡ false → k < n
    not-ended n k e = elim (cases_lt k n) as (λ _. k < n) [ inl h ↦ h | inr h ↦ clash (nat_le n k) (from-upto n k h) e ]

    not-begun : (n k : ℕ) → nat_lt n k ≡ false → k ≤ n
    not-begun n k e = elim (cases_lt n k) as (λ _. k ≤ n) [ inl h ↦ clash (nat_lt n k) (from-below n k h) e | inr h ↦ h ]

-- a hole meets none, and neither does an extent without a block
pub meets-none : (block_size : ℕ) (s : Span) (x : ℕ × FileExt) (i : ℕ) → x.1.block ≡ 0 → (nat_le 0 i && nat_lt i (0 + 0)) ≡ meets block_size s x
meets-none block_size s x i hole = place-after i 0 0 (omega arith) (omega arith) ∙ sym (meets-hole block_size s x hole)

pub meets-empty : (block_size : ℕ) (s : Span) (x : ℕ × FileExt) (i : ℕ) → end_of block_size x.1 ≤ x.1.block → (nat_le 0 i && nat_lt i (0 + 0)) ≡ meets block_size s x
meets-empty block_size s x i few = place-after i 0 0 (omega arith) (omega arith) ∙ sym (meets-not block_size s x (omega (arith, few)))

-- of spans that are apart at most one has a block
or-count : (a b : Bool) → (a ≡ true → b ≡ false) → cond a 1 0 + cond b 1 0 ≡ cond (a || b) 1 0
or-count true true h = clash true refl (h refl)
or-count true false h = refl
or-count false true h = refl
or-count false false h = refl

apart-tail : (s : Span) (ss : List Span) → AreApart (s ∷ ss) → AreApart ss
apart-tail s ss h = record {
  proper = All-tail (λ (t : Span). t.first ≤ t.end) s ss h.proper;
  apart = λ i j d less low. h.apart (suc i) (suc j) d (omega arith) (omega arith);
}

pub count-apart : (spans : List Span) (k : ℕ) → AreApart spans → count_by (span_has k) spans ≡ cond (is_spanned spans k) 1 0
count-apart [] k h = refl
count-apart (s ∷ ss) k h =
    let none : span_has k s ≡ true → is_spanned ss k ≡ false = λ t.
    (let in' : k < s.end = below-from k s.end (right-true (nat_le s.first k) (nat_lt k s.end) t) in
    list_any_none (span_has k) ss (λ i d low. span-before k (get_or ss i d) (let later : s.end < (get_or ss i d).first = h.apart 0 (suc i) d (omega arith) (omega arith) in omega (arith, in', later)))) in
    one-more (span_has k) s ss ∙ (ap (λ (n : ℕ). cond (span_has k s) 1 0 + n) (count-apart ss k (apart-tail s ss h)) ∙ or-count (span_has k s) (is_spanned ss k) none)

-- one more list of spans that are apart
pub count-added : (old spans : List Span) (new : List Span) (k : ℕ) (any : Bool) → AreApart spans → new ≡ old ++ spans → is_spanned spans k ≡ any → count_by (span_has k) new ≡ count_by (span_has k) old + cond any 1 0
count-added old spans new k any apart e same =
    ap (λ (ss : List Span). count_by (span_has k) ss) e
    ∙ (sum_by-append (λ (s : Span). cond (span_has k s) 1 0) old spans
    ∙ ap (λ (n : ℕ). count_by (span_has k) old + n) (count-apart spans k apart ∙ ap (λ (b : Bool). cond b 1 0) same))

-- a span has a block, or ends by it, where it begins by it
has-or-ends : (k : ℕ) (s : Span) → s.first ≤ s.end → cond (span_has k s) 1 0 + cond (nat_le s.end k) 1 0 ≡ cond (nat_le s.first k) 1 0
has-or-ends k s proper = elim (cases_lt k s.first) as (λ _. cond (span_has k s) 1 0 + cond (nat_le s.end k) 1 0 ≡ cond (nat_le s.first k) 1 0) [
  | inl before ↦
      let e : s.end ≤ k → ⊥ = λ h. omega (arith, h, before, proper) in
      (λ j. cond (span-before k s before j) 1 0 + cond (not-upto s.end k (omega (arith, before, proper)) j) 1 0) ∙ sym (ap (λ (b : Bool). cond b 1 0) (not-upto s.first k before))
  | inr from ↦ elim (cases_lt k s.end) as (λ _. cond (span_has k s) 1 0 + cond (nat_le s.end k) 1 0 ≡ cond (nat_le s.first k) 1 0) [
    | inl in' ↦ (λ j. cond (span-in k s from in' j) 1 0 + cond (not-upto s.end k in' j) 1 0) ∙ sym (ap (λ (b : Bool). cond b 1 0) (from-upto s.first k from))
    | inr past ↦ (λ j. cond (span-after k s past j) 1 0 + cond (from-upto s.end k past j) 1 0) ∙ sym (ap (λ (b : Bool). cond b 1 0) (from-upto s.first k from))
  ]
]

-- as many spans have a block as begin by it, without those that end by it
pub begun-ended : (spans : List Span) (k : ℕ) → AreProper spans → count_by (span_has k) spans + count_by (λ (s : Span). nat_le s.end k) spans ≡ count_by (λ (s : Span). nat_le s.first k) spans
begun-ended [] k proper = refl
begun-ended (s ∷ ss) k proper =
    let a = one-more (span_has k) s ss in
    let b = one-more (λ (t : Span). nat_le t.end k) s ss in
    let c = one-more (λ (t : Span). nat_le t.first k) s ss in
    let here = has-or-ends k s (All-head (λ (t : Span). t.first ≤ t.end) s ss proper) in
    let rest = begun-ended ss k (All-tail (λ (t : Span). t.first ≤ t.end) s ss proper) in
    omega (arith, a, b, c, here, rest)

-- what is counted of numbers that were taken from items and moved
count-map : {X : Type 0} (f : X → ℕ) (p : ℕ → Bool) (xs : List X) → count_by p (map f xs) ≡ count_by (λ (x : X). p (f x)) xs
count-map f p [] = refl
count-map f p (x ∷ xs) = one-more p (f x) (map f xs) ∙ (ap (λ (n : ℕ). cond (p (f x)) 1 0 + n) (count-map f p xs) ∙ sym (one-more (λ y. p (f y)) x xs))

pub count-moved : {X : Type 0} (f : X → ℕ) (p : ℕ → Bool) (xs : List X) (ns : List ℕ) → IsPermutation (map f xs) ns → count_by p ns ≡ count_by (λ (x : X). p (f x)) xs
count-moved f p xs ns moves = sum_by-IsPermutation (λ (n : ℕ). cond (p n) 1 0) (map f xs) ns moves ∙ count-map f p xs

-- what is counted of one more item
pub count-next : {X : Type 0} (p : X → Bool) (xs : List X) (i : ℕ) (d : X) → i < length xs → count_by p (take (i + 1) xs) ≡ count_by p (take i xs) + cond (p (get_or xs i d)) 1 0
count-next p xs i d low = elim (test_or (p (get_or xs i d))) as (λ _. count_by p (take (i + 1) xs) ≡ count_by p (take i xs) + cond (p (get_or xs i d)) 1 0) [
  | inl t ↦ count_by_more_yes p xs i d low t ∙ ap (λ (b : Bool). count_by p (take i xs) + cond b 1 0) (sym t)
  | inr f ↦ count_by_more_no p xs i d low f ∙ (plus-zero (count_by p (take i xs)) ∙ ap (λ (b : Bool). count_by p (take i xs) + cond b 1 0) (sym f))
]
  where
    plus-zero : (n : ℕ) → n ≡ n + 0
    plus-zero n = omega arith

-- all items of a list pass
all-pass : {X : Type 0} (p : X → Bool) (xs : List X) → ((i : ℕ) (d : X) → i < length xs → p (get_or xs i d) ≡ true) → filter p xs ≡ xs
all-pass p [] each = refl
all-pass {X} p (x ∷ xs) each =
    ap (λ (b : Bool). cond b (x ∷ filter p xs) (filter p xs)) (each 0 x (omega arith))
    ∙ ap (λ (ys : List X). x ∷ ys) (all-pass p xs (λ i d low. each (suc i) d (omega arith)))

-- of extents in the order of their streams those of one stand together
pub stream-slice : (xs : List (ℕ × FileExt)) (id low high from : ℕ) → low ≤ length xs → high ≤ length xs → from ≡ min low high
    → IsPartitionPoint (λ (x : ℕ × FileExt). nat_lt x.0 id ≡ true) (λ (x : ℕ × FileExt). nat_lt x.0 id ≡ false) xs low
    → IsPartitionPoint (λ (x : ℕ × FileExt). nat_le x.0 id ≡ true) (λ (x : ℕ × FileExt). nat_le x.0 id ≡ false) xs high
    → slice_range xs from high ≡ filter (is_of id) xs
stream-slice xs id low high from a b e below upto =
    sym (all-pass (is_of id) (slice_range xs from high) (λ i d less. here i d less)) ∙ window (is_of id) xs from high (omega arith) b
    (λ i d less. not-of (get_or xs i d) (λ same. let t : (get_or xs i d).0 < id = below-from (get_or xs i d).0 id (below.0 i d (omega arith) (omega arith)) in omega (arith, t, same)))
    (λ i d more less. not-of (get_or xs i d) (λ same. clash (nat_le (get_or xs i d).0 id) (from-upto (get_or xs i d).0 id (omega (arith, same))) (upto.1 i d more less)))
  where
    not-of : (x : ℕ × FileExt) → (x.0 ≡ id → ⊥) → is_of id x ≡ false
    not-of x other = never-true (is_of id x) (λ t. other (equal-from x.0 id t))

    here : (i : ℕ) (d : ℕ × FileExt) → i < length (slice_range xs from high) → is_of id (get_or (slice_range xs from high) i d) ≡ true
    here i d less =
        let long : length (slice_range xs from high) ≡ min (high - from) (length (drop from xs)) = length-take (high - from) (drop from xs) in
        let inside : i < high - from = omega (arith, less, long) in
        let at : get_or (slice_range xs from high) i d ≡ get_or xs (from + i) d = get_or-take (high - from) (drop from xs) i d inside ∙ get_or-drop from xs i d in
        let x : ℕ × FileExt = get_or xs (from + i) d in
        let le : x.0 ≤ id = upto-from x.0 id (upto.0 (from + i) d (omega arith) (omega (arith, inside))) in
        let f : nat_lt x.0 id ≡ false = below.1 (from + i) d (omega (arith, inside, e)) (omega (arith, inside, b)) in
        let ge : x.0 < id → ⊥ = λ h. clash (nat_lt x.0 id) (from-below x.0 id h) f in
        ap (is_of id) at ∙ from-equal x.0 id (elim (cases_lt x.0 id) as (λ _. x.0 ≡ id) [ inl h ↦ absurd (ge h) | inr h ↦ omega (arith, h, le) ])

-- an item passes that is of a stream where an item of the stream passes
any-of : (m : ℕ × FileExt → Bool) (id : ℕ) (xs : List (ℕ × FileExt)) → list_any m (filter (is_of id) xs) ≡ list_any (λ (x : ℕ × FileExt). m x && (x.0 == id)) xs
any-of m id [] = refl
any-of m id (x ∷ xs) =
    let go : (b : Bool) → list_any m (cond b (x ∷ filter (is_of id) xs) (filter (is_of id) xs)) ≡ ((m x && b) || list_any (λ (y : ℕ × FileExt). m y && (y.0 == id)) xs) =
    λ b. elim b as (λ b. list_any m (cond b (x ∷ filter (is_of id) xs) (filter (is_of id) xs)) ≡ ((m x && b) || list_any (λ (y : ℕ × FileExt). m y && (y.0 == id)) xs)) [
      | true ↦ ap (λ (t : Bool). m x || t) (any-of m id xs) ∙ ap (λ (t : Bool). t || list_any (λ (y : ℕ × FileExt). m y && (y.0 == id)) xs) (sym (and-true (m x)))
      | false ↦ any-of m id xs ∙ ap (λ (t : Bool). t || list_any (λ (y : ℕ × FileExt). m y && (y.0 == id)) xs) (sym (and-false (m x)))
    ] in
    go (x.0 == id)
  where
    and-true : (b : Bool) → (b && true) ≡ b
    and-true true = refl
    and-true false = refl

any-id : (m : ℕ × FileExt → Bool) (id : ℕ) (xs : List (ℕ × FileExt)) → list_any (λ (x : ℕ × FileExt). m x && (x.0 == id)) xs ≡ true → In id (map (λ (x : ℕ × FileExt). x.0) xs)
any-id m id [] e = absurd (cc)
any-id m id (x ∷ xs) e = elim (test_or (m x && (x.0 == id))) as (λ _. In id (map (λ (x : ℕ × FileExt). x.0) (x ∷ xs))) [
  | inl t ↦ inl (sym (equal-from x.0 id (right-true (m x) (x.0 == id) t)))
  | inr f ↦ inr (any-id m id xs (sym (ap (λ (b : Bool). b || list_any (λ (y : ℕ × FileExt). m y && (y.0 == id)) xs) f) ∙ e))
]

-- as many ids of streams have an extent that meets a span as streams touch it
pub streams-counted : (block_size : ℕ) (extents sorted : List (ℕ × FileExt)) (ids : List ℕ) (s : Span) → IsPermutation extents sorted
    → ((id : ℕ) → In id (map (λ (x : ℕ × FileExt). x.0) sorted) ↔ In id ids) → Apart ids
    → count_by (λ (id : ℕ). list_any (meets block_size s) (filter (is_of id) sorted)) ids ≡ streams_at block_size extents s
streams-counted block_size extents sorted ids s moves all apart =
    let m : ℕ × FileExt → Bool = meets block_size s in
    let p : ℕ → Bool = λ id. list_any m (filter (is_of id) sorted) in
    let ns : List ℕ = map (λ (x : ℕ × FileExt). x.0) (filter m extents) in
    let same : (id : ℕ) → p id ≡ has ns id = λ id. any-of m id sorted ∙ (sym (list_any-IsPermutation (λ (x : ℕ × FileExt). m x && (x.0 == id)) extents sorted moves) ∙ sym (has-of m extents id)) in
    let into : (id : ℕ) → In id (filter p ids) → In id ns = λ id h. has-in id ns (sym (same id) ∙ filter-test p id ids h) in
    let back : (id : ℕ) → In id ns → In id (filter p ids) = λ id h.
    (let t : p id ≡ true = same id ∙ in-has id ns h in
    in-filter p id ids ((all id).0 (any-id m id sorted (sym (any-of m id sorted) ∙ t))) t) in
    sym (length-filter p ids)
    ∙ apart-same (λ id. In id ns) (filter p ids) (distinct ns) (apart-filter p ids apart) (apart-distinct ns) (into, back) ((λ id h. from-distinct ns id h), (λ id h. into-distinct ns id h))

-- the number of a range is that of its span
pub streams-span : (block_size : ℕ) (extents : List (ℕ × FileExt)) (r : NewRange) → streams_at block_size extents (span_of r) ≡ streams_of block_size extents r
unfolding streams_of touches meets
streams-span block_size extents r = refl

-- what an extent meets, among what others meet
pub spanned-next : (block_size : ℕ) (s : Span) (extents : List (ℕ × FileExt)) (k i : ℕ) (d : ℕ × FileExt) (old new : List Span) (r : NewRange) → k < length extents → new ≡ old ++ span_of r ∷ []
    → range_has i r ≡ meets block_size s (get_or extents k d) → is_spanned old i ≡ list_any (meets block_size s) (take k extents) → is_spanned new i ≡ list_any (meets block_size s) (take (k + 1) extents)
spanned-next block_size s extents k i d old new r low e here had =
    ap (λ (ss : List Span). is_spanned ss i) e
    ∙ (spanned-push old (span_of r) i
    ∙ (ap (λ (b : Bool). is_spanned old i || b) (or-none (span_has i (span_of r)) ∙ here)
    ∙ (ap (λ (b : Bool). b || meets block_size s (get_or extents k d)) had
    ∙ sym (list_any_more (meets block_size s) extents k d low))))

-- one more number
pub each-next : (counts new : List ℕ) (f : ℕ → ℕ) (n place : ℕ) → length counts ≡ place → new ≡ counts ++ n ∷ [] → ((i : ℕ) → i < place → get_or counts i 0 ≡ f i) → n ≡ f place → (i : ℕ) → i < place + 1 → get_or new i 0 ≡ f i
each-next counts new f n place long e had here i low = ap (λ (ns : List ℕ). get_or ns i 0) e ∙ elim (cases_lt i place) as (λ _. get_or (counts ++ n ∷ []) i 0 ≡ f i) [
  | inl before ↦ get_or_append_left counts (n ∷ []) 0 i (omega (arith, before, long)) ∙ had i before
  | inr after ↦
      let at : length counts ≡ i = omega (arith, low, after, long) in
      let same : place ≡ i = omega (arith, low, after) in
      subst (λ (k : ℕ). get_or (counts ++ n ∷ []) k 0 ≡ n) at (get_or-append_seam counts n [] 0) ∙ (here ∙ ap f same)
]

-- of spans that don't end before they begin no more end by a number than begin by it, and those between have it
pub fewer-ended : (spans : List Span) (firsts ends : List ℕ) (k : ℕ) → AreProper spans → IsPermutation (map (λ (s : Span). s.first) spans) firsts → IsPermutation (map (λ (s : Span). s.end) spans) ends
    → count_by (span_has k) spans + count_by (λ (n : ℕ). nat_le n k) ends ≡ count_by (λ (n : ℕ). nat_le n k) firsts
fewer-ended spans firsts ends k proper p q =
    ap (λ (n : ℕ). count_by (span_has k) spans + n) (count-moved (λ (s : Span). s.end) (λ (n : ℕ). nat_le n k) spans ends q)
    ∙ (begun-ended spans k proper ∙ sym (count-moved (λ (s : Span). s.first) (λ (n : ℕ). nat_le n k) spans firsts p))

pub less-of : (a b c : ℕ) → a + b ≡ c → b ≤ c
less-of a b c e = omega (arith, e)

pub rest-of : (a b c : ℕ) → a + b ≡ c → c - b ≡ a
rest-of a b c e = omega (arith, e)

pub long-next : (counts new : List ℕ) (n place : ℕ) → length counts ≡ place → new ≡ counts ++ n ∷ [] → length new ≡ place + 1
long-next counts new n place long e =
    let all : length new ≡ length (counts ++ n ∷ []) = ap length e in
    let more = length-append counts (n ∷ []) in
    omega (arith, all, more, long)

-- the span of a range
span_by : ℕ → ℕ → Span
span_by first end = record { first = first; end = end }

span-is : (s : Span) (r : NewRange) → s.first ≡ r.first → s.end ≡ r.first + r.length → s ≡ span_of r
unfolding span_by
span-is s r p q = let k : span_by s.first s.end ≡ span_by r.first (r.first + r.length) = cc in k

-- the number beside a range's span is the range's
pub found : (block_size : ℕ) (extents : List (ℕ × FileExt)) (spans : List Span) (counts : List ℕ) (place : ℕ) (r : NewRange) (span : Span) (n : ℕ) → AreCounts block_size extents spans counts → place < length spans
    → span ≡ get_or spans place span → n ≡ get_or counts place n → span.first ≡ r.first → span.end ≡ r.first + r.length → n ≡ streams_of block_size extents r
found block_size extents spans counts place r span n are low at here p q =
    let inside : place < length counts = omega (arith, low, are.long) in
    here
    ∙ (get_or_default counts place n 0 inside
    ∙ (are.each place span low
    ∙ (ap (streams_at block_size extents) (sym at ∙ span-is span r p q)
    ∙ streams-span block_size extents r)))
