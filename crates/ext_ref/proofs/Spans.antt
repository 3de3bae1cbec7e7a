-- Spans that are joined have the blocks of those that were joined.
use Rattle.std.specs.Prelude.{◌≡◌, ℕ, ◌+◌, ◌≤◌, ◌<◌, max, ◌&&◌, ◌||◌, nat_le, nat_lt, Bool, true, false, List, [], ◌∷◌, ◌++◌, length, map, Some, None, refl, if◌then◌else◌}
use Rattle.std.specs.List.{range_with_len, list_all}
use Rattle.std.specs.List.Sorted.{IsNonDecreasingBy, IsPartitionPoint, IsPartitionedBy}
use Rattle.std.proofs.Common.{arith, ap, sym, subst, ◌∙◌, inl, inr, get_or}
use Rattle.std.proofs.lemmas.Grind.{common_steps}
use Rattle.std.proofs.lemmas.List.{get_or_append_left, length-append, get_or_default}
use Rattle.std.proofs.Math.Seq.{get_or-append_seam}
use Rattle.std.proofs.lemmas.List.Elements.{All-push, All-map}
use Rattle.std.proofs.lemmas.List.Folds.{list_any_none, list_any_at}
use Rattle.std.proofs.lemmas.List.Quantifiers.{all_pairs_push}
use Rattle.std.proofs.lemmas.List.Sorted.{IsPartitionedBy-leb}
use Rattle.std.proofs.lemmas.Bool.{cases_lt}
use Rattle.apfs_model.proofs.BoolTests.{test_or, below-from, from-below, upto-from, from-upto, both-true, left-true, right-true, never-true}
use Rattle.ext_ref.specs.Cover.{is_owned, is_covered, range_has}
use Rattle.ext_ref.proofs.Covers.{all-each, not-all}
use Rattle.ext_ref.specs.Spans.{span_of, span_has, is_spanned, joined_spans, AreProper, AreApart, BeginBy, are_spanned, IsCoverOf}
use Rattle.ext_ref.specs.declared.range.NewRange.{NewRange}
use Rattle.ext_ref.specs.declared.covering.Span.{Span}

-- the spans of ranges have their blocks
pub spanned-ranges : (ranges : List NewRange) (block : ℕ) → is_spanned (map span_of ranges) block ≡ is_owned ranges block
unfolding is_owned
spanned-ranges [] block = refl
spanned-ranges (r ∷ rs) block = ap (λ (b : Bool). range_has block r || b) (spanned-ranges rs block)

pub proper-ranges : (ranges : List NewRange) → AreProper (map span_of ranges)
proper-ranges ranges = All-map (λ (s : Span). s.first ≤ s.end) span_of ranges (λ k d low. omega arith)

-- a block before a span's first, or one at its end or after it, isn't in it
pub span-before : (block : ℕ) (s : Span) → block < s.first → span_has block s ≡ false
span-before block s low = never-true (span_has block s) (λ e. let h : s.first ≤ block = upto-from s.first block (left-true (nat_le s.first block) (nat_lt block s.end) e) in absurd (omega arith))

pub span-after : (block : ℕ) (s : Span) → s.end ≤ block → span_has block s ≡ false
span-after block s high = never-true (span_has block s) (λ e. let h : block < s.end = below-from block s.end (right-true (nat_le s.first block) (nat_lt block s.end) e) in absurd (omega arith))

pub span-in : (block : ℕ) (s : Span) → s.first ≤ block → block < s.end → span_has block s ≡ true
span-in block s low high = both-true (nat_le s.first block) (nat_lt block s.end) (from-upto s.first block low) (from-below block s.end high)

-- the last of spans that are apart, and those before it
pub apart-front : (front : List Span) (last : Span) → AreApart (front ++ last ∷ []) → AreApart front
apart-front front last h = record {
  proper = λ k d low. subst (λ (s : Span). s.first ≤ s.end) (get_or_append_left front (last ∷ []) d k low) (h.proper k d (grind (arith, low, length-append front (last ∷ []))));
  apart = λ i j d low high.
      let both : (s t : Span) → get_or (front ++ last ∷ []) i d ≡ s → get_or (front ++ last ∷ []) j d ≡ t → s.end < t.first =
      λ s t e f. subst (λ (u : Span). s.end < u.first) f (subst (λ (u : Span). u.end < (get_or (front ++ last ∷ []) j d).first) e (h.apart i j d low (grind (arith, high, length-append front (last ∷ []))))) in
      both (get_or front i d) (get_or front j d) (get_or_append_left front (last ∷ []) d i (omega (arith, low, high))) (get_or_append_left front (last ∷ []) d j high);
}

pub apart-before : (front : List Span) (last : Span) → AreApart (front ++ last ∷ []) → (k : ℕ) (d : Span) → k < length front → (get_or front k d).end < last.first
apart-before front last h k d low =
    let both : (s t : Span) → get_or (front ++ last ∷ []) k d ≡ s → get_or (front ++ last ∷ []) (length front) d ≡ t → s.end < t.first =
    λ s t e f. subst (λ (u : Span). s.end < u.first) f (subst (λ (u : Span). u.end < (get_or (front ++ last ∷ []) (length front) d).first) e (h.apart k (length front) d low (grind (arith, length-append front (last ∷ []))))) in
    both (get_or front k d) last (get_or_append_left front (last ∷ []) d k low) (get_or-append_seam front last [] d)

pub proper-last : (front : List Span) (last : Span) → AreApart (front ++ last ∷ []) → last.first ≤ last.end
proper-last front last h = subst (λ (s : Span). s.first ≤ s.end) (get_or-append_seam front last [] last) (h.proper (length front) last (grind (arith, length-append front (last ∷ []))))

pub begin-last : (block : ℕ) (front : List Span) (last : Span) → BeginBy block (front ++ last ∷ []) → last.first ≤ block
begin-last block front last h = subst (λ (s : Span). s.first ≤ block) (get_or-append_seam front last [] last) (h (length front) last (grind (arith, length-append front (last ∷ []))))

pub begin-front : (block : ℕ) (front : List Span) (last : Span) → BeginBy block (front ++ last ∷ []) → BeginBy block front
begin-front block front last h = λ k d low. subst (λ (s : Span). s.first ≤ block) (get_or_append_left front (last ∷ []) d k low) (h k d (grind (arith, low, length-append front (last ∷ []))))

-- spans and one more after them
pub apart-push : (front : List Span) (last : Span) → AreApart front → last.first ≤ last.end → ((k : ℕ) (d : Span) → k < length front → (get_or front k d).end < last.first) → AreApart (front ++ last ∷ [])
apart-push front last h proper before = record {
  proper = All-push (λ (s : Span). s.first ≤ s.end) front last h.proper proper;
  apart = all_pairs_push (λ (s t : Span). s.end < t.first) front last h.apart before;
}

some-if : (b : Bool) (s t : Span) → (if b then Some s else None) ≡ Some t → t ≡ s
some-if true s t e = cc
some-if false s t e = absurd (cc)

none-if : (b : Bool) (s : Span) → (if b then Some s else None) ≡ None → b ≡ false
none-if true s e = absurd (cc)
none-if false s e = refl

joined-is : (last span both : Span) → joined_spans last span ≡ Some both → both ≡ record { first = last.first; end = max last.end span.end }
joined-is last span both e = some-if (nat_le span.first last.end) (record { first = last.first; end = max last.end span.end }) both e

not-joined : (last span : Span) → joined_spans last span ≡ None → last.end < span.first
not-joined last span e = let f : nat_le span.first last.end ≡ false = none-if (nat_le span.first last.end) (record { first = last.first; end = max last.end span.end }) e in grind (arith, common_steps, f)

-- spans, the last of which another one met
pub joined-apart : (front : List Span) (last span both : Span) → AreApart (front ++ last ∷ []) → joined_spans last span ≡ Some both → AreApart (front ++ both ∷ [])
joined-apart front last span both h e =
    let one : Span = record { first = last.first; end = max last.end span.end } in
    let proper : last.first ≤ last.end = proper-last front last h in
    subst (λ (s : Span). AreApart (front ++ s ∷ [])) (sym (joined-is last span both e))
    (apart-push front one (apart-front front last h) (omega (arith, proper)) (apart-before front last h))

pub joined-by : (front : List Span) (last span both : Span) → BeginBy span.first (front ++ last ∷ []) → joined_spans last span ≡ Some both → BeginBy span.first (front ++ both ∷ [])
joined-by front last span both h e =
    All-push (λ (s : Span). s.first ≤ span.first) front both (begin-front span.first front last h)
    (subst (λ (s : Span). s.first ≤ span.first) (sym (joined-is last span both e)) (begin-last span.first front last h))

-- spans, and one after the last
pub further-apart : (front : List Span) (last span : Span) → AreApart (front ++ last ∷ []) → joined_spans last span ≡ None → span.first ≤ span.end → AreApart ((front ++ last ∷ []) ++ span ∷ [])
further-apart front last span h e proper =
    let less : last.end < span.first = not-joined last span e in
    apart-push (front ++ last ∷ []) span h proper
    (λ k d low. elim (cases_lt k (length front)) as (λ _. (get_or (front ++ last ∷ []) k d).end < span.first) [
      | inl before ↦
          let first : (get_or front k d).end < last.first = apart-before front last h k d before in
          let full : last.first ≤ last.end = proper-last front last h in
          subst (λ (s : Span). s.end < span.first) (sym (get_or_append_left front (last ∷ []) d k before)) (omega (arith, first, full, less))
      | inr after ↦
          let e : k ≡ length front = grind (arith, low, after, length-append front (last ∷ [])) in
          subst (λ (s : Span). s.end < span.first) (sym (ap (λ (n : ℕ). get_or (front ++ last ∷ []) n d) e ∙ get_or-append_seam front last [] d)) less
    ])

-- spans that are apart begin in order
pub ascending-apart : (spans : List Span) → AreApart spans → IsNonDecreasingBy (λ (s : Span). s.first) spans
ascending-apart spans h = λ i j d low high. elim (cases_lt i j) as (λ _. (get_or spans i d).first ≤ (get_or spans j d).first) [
  | inl less ↦ let p : (get_or spans i d).first ≤ (get_or spans i d).end = h.proper i d (omega (arith, less, high)) in let q : (get_or spans i d).end < (get_or spans j d).first = h.apart i j d less high in omega (arith, p, q)
  | inr more ↦ let e : i ≡ j = omega (arith, low, more) in subst (λ (n : ℕ). (get_or spans i d).first ≤ (get_or spans n d).first) e (omega arith)
]

pub partitioned : (spans : List Span) (block : ℕ) → AreApart spans → IsPartitionedBy (λ (s : Span). nat_le s.first block) spans
partitioned spans block h = IsPartitionedBy-leb (λ (s : Span). s.first) spans block (ascending-apart spans h)

-- where no span begins by a block, a range from there on isn't spanned
pub none-spanned : (spans : List Span) (first n : ℕ) → 0 < n → IsPartitionPoint (λ (s : Span). nat_le s.first first ≡ true) (λ (s : Span). nat_le s.first first ≡ false) spans 0 → are_spanned spans first n ≡ false
none-spanned spans first n some split =
    not-all (is_spanned spans) first n first (omega arith) (omega (arith, some))
    (list_any_none (span_has first) spans (λ k d low. span-before first (get_or spans k d) (let f : nat_le (get_or spans k d).first first ≡ false = split.1 k d (omega arith) low in grind (arith, common_steps, f))))

all-same : (test other : ℕ → Bool) (ns : List ℕ) → ((n : ℕ) → test n ≡ other n) → list_all test ns ≡ list_all other ns
all-same test other [] same = refl
all-same test other (n ∷ ns) same = ap (λ (b : Bool). b && list_all test ns) (same n) ∙ ap (λ (b : Bool). other n && b) (all-same test other ns same)

-- a block from the end of span i on, where the spans after it begin after a block and that end
outside : (spans : List Span) (first i k : ℕ) (d e : Span) → AreApart spans → i < length spans → k < length spans
    → IsPartitionPoint (λ (s : Span). nat_le s.first first ≡ true) (λ (s : Span). nat_le s.first first ≡ false) spans (i + 1) → span_has (max first (get_or spans i d).end) (get_or spans k e) ≡ false
outside spans first i k d e h low less split =
    let block : ℕ = max first (get_or spans i d).end in
    let same : get_or spans i e ≡ get_or spans i d = get_or_default spans i e d low in
    elim (cases_lt i k) as (λ _. span_has block (get_or spans k e) ≡ false) [
      | inl later ↦
          let f : nat_le (get_or spans k e).first first ≡ false = split.1 k e (omega arith) less in
          let a : first < (get_or spans k e).first = grind (arith, common_steps, f) in
          let b : (get_or spans i e).end < (get_or spans k e).first = h.apart i k e later less in
          let c : (get_or spans i d).end < (get_or spans k e).first = subst (λ (s : Span). s.end < (get_or spans k e).first) same b in
          span-before block (get_or spans k e) (omega (arith, a, c))
      | inr upto ↦ elim (cases_lt k i) as (λ _. span_has block (get_or spans k e) ≡ false) [
        | inl before ↦
            let b : (get_or spans k e).end < (get_or spans i e).first = h.apart k i e before low in
            let p : (get_or spans i e).first ≤ (get_or spans i e).end = h.proper i e low in
            let c : (get_or spans i e).end ≡ (get_or spans i d).end = ap (λ (s : Span). s.end) same in
            span-after block (get_or spans k e) (omega (arith, b, p, c))
        | inr at ↦
            let n : k ≡ i = omega (arith, upto, at) in
            let c : (get_or spans k e).end ≡ (get_or spans i d).end = ap (λ (m : ℕ). (get_or spans m e).end) n ∙ ap (λ (s : Span). s.end) same in
            span-after block (get_or spans k e) (omega (arith, c))
      ]
    ]

-- where i spans begin by a block, a range from there on is spanned exactly where it ends by the end of the last of them
pub last-spanned : (spans : List Span) (first n i : ℕ) (d : Span) → AreApart spans → 0 < n → i < length spans
    → IsPartitionPoint (λ (s : Span). nat_le s.first first ≡ true) (λ (s : Span). nat_le s.first first ≡ false) spans (i + 1) → nat_le (first + n) (get_or spans i d).end ≡ are_spanned spans first n
last-spanned spans first n i d h some low split =
    let last = get_or spans i d in
    elim (test_or (nat_le (first + n) last.end)) as (λ _. nat_le (first + n) last.end ≡ are_spanned spans first n) [
      | inl fits ↦
          fits ∙ sym (all-each (is_spanned spans) first n (λ block from to.
          let begins : last.first ≤ first = upto-from last.first first (split.0 i d (omega arith) (omega arith)) in
          let ends : first + n ≤ last.end = upto-from (first + n) last.end fits in
          list_any_at (span_has block) spans i d low (span-in block last (omega (arith, begins, from)) (omega (arith, to, ends)))))
      | inr passes ↦
          let over : last.end < first + n = grind (arith, common_steps, passes) in
          let block : ℕ = max first last.end in
          passes ∙ sym (not-all (is_spanned spans) first n block (omega arith) (omega (arith, over, some))
          (list_any_none (span_has block) spans (λ k e less. outside spans first i k d e h low less split)))
    ]

-- a cover has all of a range exactly where its ranges do
pub cover-same : (ranges : List NewRange) (spans : List Span) (first n : ℕ) → IsCoverOf ranges spans → are_spanned spans first n ≡ is_covered ranges first n
unfolding is_covered
cover-same ranges spans first n same = all-same (is_spanned spans) (is_owned ranges) (range_with_len first n) same

-- after one more span in order
pub begin-later : (sorted spans : List Span) (i : ℕ) (one : Span) → i < length sorted → IsNonDecreasingBy (λ (s : Span). s.first) sorted → BeginBy (get_or sorted i one).first spans
    → (k : ℕ) (d : Span) → i + 1 ≤ k → k < length sorted → BeginBy (get_or sorted k d).first spans
begin-later sorted spans i one low up by k d after less = λ k' d' low'.
    let a : (get_or spans k' d').first ≤ (get_or sorted i one).first = by k' d' low' in
    let b : (get_or sorted i d).first ≤ (get_or sorted k d).first = up i k d (omega arith) less in
    let e : (get_or sorted i one).first ≡ (get_or sorted i d).first = ap (λ (s : Span). s.first) (get_or_default sorted i one d low) in
    omega (arith, a, b, e)
