-- What is left of spans without others, and of ranges without what extents reach.
use Rattle.std.specs.Prelude.{◌≡◌, ℕ, ◌+◌, ◌-◌, ◌^◌, ◌≤◌, ◌<◌, ◌==◌, ◌||◌, ◌&&◌, not, min, max, Bool, true, false, nat_le, nat_lt, List, [], ◌∷◌, ◌++◌, length, map, refl, Result, Ok, Err, IfOk}
use Rattle.std.specs.List.{list_any, All}
use Rattle.std.proofs.Common.{arith, ap, sym, subst, ◌∙◌, inl, inr, get_or, take}
use Rattle.std.proofs.lemmas.Bool.{cases_lt}
use Rattle.std.proofs.lemmas.List.{get_or_default}
use Rattle.std.proofs.lemmas.List.Elements.{All-head, All-tail, All-push}
use Rattle.std.proofs.lemmas.List.Folds.{list_any-append, list_any_none, list_any_at, list_any_more}
use Rattle.apfs_model.specs.Blocks.{is_in}
use Rattle.apfs_model.proofs.BoolTests.{test_or, never-true, equal-from, left-true, right-true, below-from, from-below, upto-from, from-upto}
use Rattle.fs_record.specs.StreamExtents.{extent_blocks, is_hole}
use Rattle.fs_record.specs.declared.extents.FileExt.{FileExt}
use Rattle.ext_ref.specs.Cover.{is_owned, range_has}
use Rattle.ext_ref.specs.Spans.{span_of, span_has, is_spanned, IsCoverOf, AreProper, AreApart}
use Rattle.ext_ref.specs.Unreached.{reaches, is_unreached, unreached_runs, end_of_ranges}
use Rattle.ext_ref.specs.Left.{run_of, is_left, EndBy, AreUpTo, AreLow, AreLeft, AreShort, reach_of}
use Rattle.ext_ref.specs.declared.range.NewRange.{NewRange}
use Rattle.ext_ref.specs.declared.covering.Span.{Span}
use Rattle.ext_ref.proofs.Spans.{span-before, span-after, span-in, ascending-apart}
use Rattle.ext_ref.proofs.Runs.{runs-left, last-in, owned-below}

pub spanned-push : (spans : List Span) (s : Span) (k : ℕ) → is_spanned (spans ++ s ∷ []) k ≡ (is_spanned spans k || (span_has k s || false))
spanned-push spans s k = list_any-append (span_has k) spans (s ∷ [])

pub or-none : (b : Bool) → (b || false) ≡ b
or-none true = refl
or-none false = refl

-- the blocks of one more extent
pub spanned-reach : (block_size : ℕ) (old new : List Span) (x : ℕ × FileExt) (k : ℕ) → new ≡ old ++ span_of (reach_of block_size x.1) ∷ [] → (x.1.block ≡ 0 → ⊥) → is_spanned new k ≡ (is_spanned old k || reaches block_size k x)
spanned-reach block_size old new x k e some =
    let whole : is_hole x.1 ≡ false = never-true (x.1.block == 0) (λ t. some (equal-from x.1.block 0 t)) in
    ap (λ (ss : List Span). is_spanned ss k) e
    ∙ (spanned-push old (span_of (reach_of block_size x.1)) k
    ∙ (ap (λ (b : Bool). is_spanned old k || b) (or-none (span_has k (span_of (reach_of block_size x.1))))
    ∙ ap (λ (b : Bool). is_spanned old k || (not b && is_in k x.1.block (extent_blocks block_size x.1))) (sym whole)))

-- one more span of a range
pub proper-push : (old new : List Span) (r : NewRange) → new ≡ old ++ span_of r ∷ [] → AreProper old → AreProper new
proper-push old new r e proper =
    let P : Span → Type 0 = λ s. s.first ≤ s.end in
    subst (λ (ss : List Span). AreProper ss) (sym e) (All-push P old (span_of r) proper (omega arith))

-- spans that begin by a block begin by a later one, and so with ends
pub up-later : (a b : ℕ) (spans : List Span) → a ≤ b → AreUpTo a spans → AreUpTo b spans
up-later a b spans more h = record {
  apart = h.apart;
  full = h.full;
  by = λ k d low. let t : (get_or spans k d).first ≤ a = h.by k d low in omega arith;
}

pub end-later : (a b place : ℕ) (spans : List Span) → a ≤ b → EndBy a place spans → EndBy b place spans
end-later a b place spans more h = λ k d less low. let t : (get_or spans k d).end ≤ a = h k d less low in omega arith

pub end-more : (a b place : ℕ) (spans : List Span) (d : Span) → a ≤ b → place < length spans → (get_or spans place d).end ≤ b → EndBy a place spans → EndBy b (place + 1) spans
end-more a b place spans d more low end h = λ k e less some. elim (cases_lt k place) as (λ _. (get_or spans k e).end ≤ b) [
  | inl before ↦ let t : (get_or spans k e).end ≤ a = h k e before some in omega arith
  | inr after ↦
      let same : place ≡ k = omega arith in
      subst (λ (n : ℕ). (get_or spans n e).end ≤ b) same (subst (λ (s : Span). s.end ≤ b) (get_or_default spans place d e low) end)
]

-- no span has a block by which those before a place end and after which the rest begin
pub none-has : (spans : List Span) (place k : ℕ) → EndBy k place spans → ((i : ℕ) (d : Span) → place ≤ i → i < length spans → k < (get_or spans i d).first) → is_spanned spans k ≡ false
none-has spans place k before after = list_any_none (span_has k) spans (λ i d low. elim (cases_lt i place) as (λ _. span_has k (get_or spans i d) ≡ false) [
  | inl less ↦ span-after k (get_or spans i d) (before i d less low)
  | inr more ↦ span-before k (get_or spans i d) (after i d more low)
])

-- spans from a place on begin after a block where the one there does
from-place : (spans : List Span) (place k : ℕ) (d : Span) → AreApart spans → place < length spans → k < (get_or spans place d).first → (i : ℕ) (e : Span) → place ≤ i → i < length spans → k < (get_or spans i e).first
from-place spans place k d apart low less i e more some =
    let up : (get_or spans place e).first ≤ (get_or spans i e).first = ascending-apart spans apart place i e more some in
    let same : (get_or spans place d).first ≡ (get_or spans place e).first = ap (λ (s : Span). s.first) (get_or_default spans place d e low) in
    omega arith

not-below : (k n : ℕ) → n ≤ k → nat_lt k n ≡ false
not-below k n h = never-true (nat_lt k n) (λ e. let t : k < n = below-from k n e in absurd (omega arith))

not-upto : (n k : ℕ) → k < n → nat_le n k ≡ false
not-upto n k h = never-true (nat_le n k) (λ e. let t : n ≤ k = upto-from n k e in absurd (omega arith))

-- of the blocks from one on by which the spans before a place end, those before a block up to which the span there goes
-- lie in spans exactly from its first on
pub cut-at : (spans : List Span) (place at end gap to k : ℕ) (d : Span) → AreApart spans → EndBy at place spans → place < length spans → gap ≡ min end (get_or spans place d).first → to ≤ end → to ≤ max at (get_or spans place d).end
    → at ≤ k → k < to → is_spanned spans k ≡ not (nat_lt k gap)
cut-at spans place at end gap to k d apart before low is fits near more less =
    let s = get_or spans place d in
    elim (cases_lt k s.first) as (λ _. is_spanned spans k ≡ not (nat_lt k gap)) [
      | inl under ↦
          none-has spans place k (end-later at k place spans more before) (from-place spans place k d apart low under)
          ∙ sym (ap not (from-below k gap (omega arith)))
      | inr over ↦
          list_any_at (span_has k) spans place d low (span-in k s over (omega arith))
          ∙ sym (ap not (not-below k gap (omega arith)))
    ]

-- where all of them end by a block, none has one from there on
pub past-all : (spans : List Span) (place at to k : ℕ) → length spans ≤ place → EndBy at place spans → at ≤ k → k < to → is_spanned spans k ≡ not (nat_lt k to)
past-all spans place at to k over before more less =
    none-has spans place k (end-later at k place spans more before) (λ i d from low. absurd (omega arith)) ∙ sym (ap not (from-below k to less))

double : (old g : Bool) → ((old || false) || g) ≡ (old || not (not g))
double true g = refl
double false true = refl
double false false = refl

nothing : (old a c o : Bool) → ((old || ((a && false) && not o)) || (c && false)) ≡ (old || ((a && false) && not o))
nothing true a c o = refl
nothing false true true o = refl
nothing false true false o = refl
nothing false false true o = refl
nothing false false false o = refl

before-gap : (old a b c d g o : Bool) → b ≡ true → c ≡ false → d ≡ true → ((old || ((a && b) && not o)) || (c && g)) ≡ (old || ((a && d) && not o))
before-gap old a b c d g o p q r = rw (p, q, r) (or-none (old || ((a && true) && not o)))

in-gap : (old a b c d g o : Bool) → a ≡ true → b ≡ false → c ≡ true → d ≡ true → o ≡ not g → ((old || ((a && b) && not o)) || (c && g)) ≡ (old || ((a && d) && not o))
in-gap old a b c d g o p q r s t = rw (p, q, r, s, t) (double old g)

after-gap : (old a b c d g o : Bool) → b ≡ false → g ≡ false → d ≡ false → ((old || ((a && b) && not o)) || (c && g)) ≡ (old || ((a && d) && not o))
after-gap old a b c d g o p q r = rw (p, q, r) (nothing old a c o)

-- what is left of a span up to one block, and from there up to another the blocks before a third, where these are what is left
pub filled : (old cur new others : List Span) (first at gap to k : ℕ) → first ≤ at → at ≤ to → gap ≤ to →
    is_spanned cur k ≡ (is_spanned old k || ((nat_le first k && nat_lt k at) && not (is_spanned others k))) →
    is_spanned new k ≡ (is_spanned cur k || (nat_le at k && nat_lt k gap)) →
    (at ≤ k → k < to → is_spanned others k ≡ not (nat_lt k gap)) →
    is_spanned new k ≡ (is_spanned old k || ((nat_le first k && nat_lt k to) && not (is_spanned others k)))
filled old cur new others first at gap to k low high fits had put gone =
    let a : Bool = nat_le first k in
    let b : Bool = nat_lt k at in
    let c : Bool = nat_le at k in
    let d : Bool = nat_lt k to in
    let g : Bool = nat_lt k gap in
    let o : Bool = is_spanned others k in
    put ∙ (ap (λ (x : Bool). x || (c && g)) had ∙ elim (cases_lt k at) as (λ _. ((is_spanned old k || ((a && b) && not o)) || (c && g)) ≡ (is_spanned old k || ((a && d) && not o))) [
      | inl under ↦ before-gap (is_spanned old k) a b c d g o (from-below k at under) (not-upto at k under) (from-below k to (omega arith))
      | inr over ↦ elim (cases_lt k to) as (λ _. ((is_spanned old k || ((a && b) && not o)) || (c && g)) ≡ (is_spanned old k || ((a && d) && not o))) [
        | inl inside ↦ in-gap (is_spanned old k) a b c d g o (from-upto first k (omega arith)) (not-below k at over) (from-upto at k over) (from-below k to inside) (gone over inside)
        | inr outside ↦ after-gap (is_spanned old k) a b c d g o (not-below k at over) (not-below k gap (omega arith)) (not-below k to outside)
      ]
    ])

both-without : (a b n : Bool) → ((a || b) && n) ≡ ((a && n) || (b && n))
both-without true true true = refl
both-without true true false = refl
both-without true false true = refl
both-without true false false = refl
both-without false b n = refl

-- what is left of one more span
pub left-more : (cover others old new : List Span) (i : ℕ) (d : Span) (k : ℕ) → i < length cover → is_spanned old k ≡ is_left (take i cover) others k →
    is_spanned new k ≡ (is_spanned old k || (span_has k (get_or cover i d) && not (is_spanned others k))) → is_spanned new k ≡ is_left (take (i + 1) cover) others k
left-more cover others old new i d k low had more =
    let n : Bool = not (is_spanned others k) in
    more
    ∙ (ap (λ (b : Bool). b || (span_has k (get_or cover i d) && n)) had
    ∙ sym (ap (λ (b : Bool). b && n) (list_any_more (span_has k) cover i d low) ∙ both-without (is_spanned (take i cover) k) (span_has k (get_or cover i d)) n))

-- what begins or ends by a span's end does so by the begin of each later one
pub begin-next : (cover spans : List Span) (i : ℕ) (one : Span) → AreApart cover → i < length cover → AreUpTo (get_or cover i one).end spans → (k : ℕ) (d : Span) → i + 1 ≤ k → k < length cover → AreUpTo (get_or cover k d).first spans
begin-next cover spans i one apart low had k d more less =
    let a : (get_or cover i d).end < (get_or cover k d).first = apart.apart i k d (omega arith) less in
    let e : (get_or cover i one).end ≡ (get_or cover i d).end = ap (λ (s : Span). s.end) (get_or_default cover i one d low) in
    up-later (get_or cover i one).end (get_or cover k d).first spans (omega arith) had

pub end-next : (cover others : List Span) (i place : ℕ) (one : Span) → AreApart cover → i < length cover → EndBy (get_or cover i one).end place others → (k : ℕ) (d : Span) → i + 1 ≤ k → k < length cover → EndBy (get_or cover k d).first place others
end-next cover others i place one apart low had k d more less =
    let a : (get_or cover i d).end < (get_or cover k d).first = apart.apart i k d (omega arith) less in
    let e : (get_or cover i one).end ≡ (get_or cover i d).end = ap (λ (s : Span). s.end) (get_or_default cover i one d low) in
    end-later (get_or cover i one).end (get_or cover k d).first place others (omega arith) had

left-of : (block_size : ℕ) (ranges : List NewRange) (extents : List (ℕ × FileExt)) (cover reach : List Span) (k : ℕ) → IsCoverOf ranges cover → is_spanned reach k ≡ list_any (reaches block_size k) extents
    → is_left cover reach k ≡ is_unreached block_size ranges extents k
unfolding is_unreached
left-of block_size ranges extents cover reach k of reached = ap (λ (b : Bool). b && not (is_spanned reach k)) (of k) ∙ ap (λ (b : Bool). is_owned ranges k && not b) reached

-- an owned block comes before the end of a range, and that is short
owned-short : (ranges : List NewRange) (k : ℕ) → AreShort ranges → is_owned ranges k ≡ true → k + 1 < 2 ^ 64
unfolding is_owned
owned-short [] k short e = absurd (cc)
owned-short (r ∷ rs) k short e = elim (test_or (range_has k r)) as (λ _. k + 1 < 2 ^ 64) [
  | inl t ↦
      let h : k < r.first + r.length = below-from k (r.first + r.length) (right-true (nat_le r.first k) (nat_lt k (r.first + r.length)) t) in
      let s : r.first + r.length < 2 ^ 64 = All-head (λ (x : NewRange). x.first + x.length < 2 ^ 64) r rs short in
      omega (arith, h, s)
  | inr f ↦ owned-short rs k (All-tail (λ (x : NewRange). x.first + x.length < 2 ^ 64) r rs short) (sym (ap (λ (b : Bool). b || list_any (range_has k) rs) f) ∙ e)
]

-- the spans of short ranges are low
pub low-spans : (ranges : List NewRange) (cover : List Span) → AreShort ranges → IsCoverOf ranges cover → AreLow cover
low-spans ranges cover short of = λ i d low some.
    let s = get_or cover i d in
    let here : is_spanned cover (s.end - 1) ≡ true = list_any_at (span_has (s.end - 1)) cover i d low (span-in (s.end - 1) s (omega arith) (omega arith)) in
    let small : (s.end - 1) + 1 < 2 ^ 64 = owned-short ranges (s.end - 1) short (sym (of (s.end - 1)) ∙ here) in
    omega arith

-- what is left of them is too
pub left-short : (ranges : List NewRange) (cover others spans : List Span) → AreShort ranges → IsCoverOf ranges cover → AreLeft cover others spans → All (λ (s : Span). (s.first ≤ s.end) × (s.end - s.first < 2 ^ 64)) spans
left-short ranges cover others spans short of left = λ i d low.
    let s = get_or spans i d in
    let k : ℕ = s.end - 1 in
    let here : is_left cover others k ≡ true = sym (left.blocks k) ∙ last-in spans i d left.full low in
    let owned : is_owned ranges k ≡ true = sym (of k) ∙ left-true (is_spanned cover k) (not (is_spanned others k)) here in
    let small : k + 1 < 2 ^ 64 = owned-short ranges k short owned in
    let proper : s.first ≤ s.end = left.apart.proper i d low in
    (proper, omega (arith, small, proper))

unreached-owned : (block_size : ℕ) (ranges : List NewRange) (extents : List (ℕ × FileExt)) (k : ℕ) → is_unreached block_size ranges extents k ≡ true → is_owned ranges k ≡ true
unfolding is_unreached
unreached-owned block_size ranges extents k e = left-true (is_owned ranges k) _ e

-- as runs, they are the longest ones that no extent reaches
pub runs-unreached : (block_size : ℕ) (ranges : List NewRange) (extents : List (ℕ × FileExt)) (cover reach spans : List Span) → IsCoverOf ranges cover → ((k : ℕ) → is_spanned reach k ≡ list_any (reaches block_size k) extents)
    → AreLeft cover reach spans → map run_of spans ≡ unreached_runs block_size ranges extents
unfolding unreached_runs
runs-unreached block_size ranges extents cover reach spans of reached left =
    runs-left (is_unreached block_size ranges extents) (end_of_ranges ranges) spans left.apart left.full
    (λ k. left.blocks k ∙ left-of block_size ranges extents cover reach k of (reached k))
    (λ k e. owned-below ranges k (unreached-owned block_size ranges extents k e))

pub ok-then : {T E : Type 0} (r : Result T E) (P Q : T → Type 0) → ((x : T) → P x → Q x) → IfOk r P → IfOk r Q
ok-then (Ok x) P Q more h = more x h
ok-then (Err e) P Q more h = h
