-- Spans in the order of their first blocks, joined where they stand.
use Rattle.std.specs.Prelude.{◌≡◌, ◌⊎◌, ℕ, suc, zero, ◌≤◌, ◌<◌, max, ◌||◌, nat_le, Bool, true, false, List, [], ◌∷◌, length, Some, None, MatchOption, refl, if◌then◌else◌}
use Rattle.std.specs.Bool.{MatchBool}
use Rattle.std.specs.List.{All}
use Rattle.std.specs.List.Retain.{DedupsFrom, IsDeduped}
use Rattle.std.specs.List.Sorted.{IsNonDecreasingBy}
use Rattle.std.proofs.Common.{arith, ap, sym, subst, ◌∙◌, inl, inr, get_or}
use Rattle.std.proofs.lemmas.Bool.{cases_lt}
use Rattle.std.proofs.lemmas.List.Elements.{All-nil, All-cons, All-head, All-tail}
use Rattle.apfs_model.proofs.BoolTests.{clash, from-upto, upto-from}
use Rattle.ext_ref.specs.Spans.{span_has, is_spanned, joined_spans, AreProper, AreApart}
use Rattle.ext_ref.specs.declared.covering.Span.{Span}
use Rattle.ext_ref.proofs.Spans.{span-before, span-after, span-in}

-- what is left of a span and of the one before it, and whether that has both
abbrev pub IsStep : Span → Span → Bool → Span → Span → Type 0
IsStep x k b x' k' = MatchOption (joined_spans k x) ((b ≡ false) × (x' ≡ x) × (k' ≡ k)) (λ (both : Span). (b ≡ true) × (k' ≡ both))

-- two spans as one
abbrev both_of : Span → Span → Span
both_of k x = record { first = k.first; end = max k.end x.end }

abbrev IsOne : Span → Span → Bool → Span → Type 0
IsOne x k b k' = (b ≡ true) × (k' ≡ both_of k x) × (x.first ≤ k.end)

abbrev AreTwo : Span → Span → Bool → Span → Span → Type 0
AreTwo x k b x' k' = (b ≡ false) × (x' ≡ x) × (k' ≡ k) × (k.end < x.first)

one-or-two : (x k : Span) (b : Bool) (x' k' : Span) → IsStep x k b x' k' → IsOne x k b k' ⊎ AreTwo x k b x' k'
one-or-two x k b x' k' h = go (nat_le x.first k.end) refl h
  where
    less : nat_le x.first k.end ≡ false → k.end < x.first
    less e = elim (cases_lt k.end x.first) as (λ _. k.end < x.first) [ inl l ↦ l | inr m ↦ clash (nat_le x.first k.end) (from-upto x.first k.end m) e ]

    go : (c : Bool) → nat_le x.first k.end ≡ c
        → MatchOption (if c then Some (both_of k x) else None) ((b ≡ false) × (x' ≡ x) × (k' ≡ k)) (λ (both : Span). (b ≡ true) × (k' ≡ both))
        → IsOne x k b k' ⊎ AreTwo x k b x' k'
    go true e one = inl (one.0, one.1, upto-from x.first k.end e)
    go false e two = inr (two.0, two.1, two.2, less e)

-- of spans none begins before one that stands before it
abbrev Ascend : Span → List Span → Type 0
Ascend k [] = Unit {0}
Ascend k (x ∷ xs) = (k.first ≤ x.first) × Ascend x xs

ascend-all : (k : Span) (xs : List Span) → IsNonDecreasingBy (λ (s : Span). s.first) (k ∷ xs) → Ascend k xs
ascend-all k [] h = tt
ascend-all k (x ∷ xs) h = (h 0 1 k (omega arith) (omega arith), ascend-all x xs (λ i j d le low. h (suc i) (suc j) d (omega arith) (omega arith)))

ascend-from : (k x : Span) (xs : List Span) → k.first ≤ x.first → Ascend x xs → Ascend k xs
ascend-from k x [] le h = tt
ascend-from k x (y ∷ ys) le h = (let more : x.first ≤ y.first = h.0 in omega arith, h.1)

-- two spans that meet have together the blocks of both
both-has : (block : ℕ) (k x : Span) → k.first ≤ k.end → k.first ≤ x.first → x.first ≤ k.end → span_has block (both_of k x) ≡ (span_has block k || span_has block x)
both-has block k x proper up meet = elim (cases_lt block k.first) as (λ _. span_has block (both_of k x) ≡ (span_has block k || span_has block x)) [
  | inl low ↦
      span-before block (both_of k x) low
      ∙ (ap (λ (b : Bool). false || b) (sym (span-before block x (omega arith)))
      ∙ ap (λ (b : Bool). b || span_has block x) (sym (span-before block k low)))
  | inr from ↦ elim (cases_lt block k.end) as (λ _. span_has block (both_of k x) ≡ (span_has block k || span_has block x)) [
    | inl in' ↦
        span-in block (both_of k x) from (omega arith) ∙ ap (λ (b : Bool). b || span_has block x) (sym (span-in block k from in'))
    | inr past ↦ elim (cases_lt block x.end) as (λ _. span_has block (both_of k x) ≡ (span_has block k || span_has block x)) [
      | inl more ↦
          span-in block (both_of k x) from (omega arith)
          ∙ (sym (span-in block x (omega arith) more)
          ∙ ap (λ (b : Bool). b || span_has block x) (sym (span-after block k past)))
      | inr over ↦
          span-after block (both_of k x) (omega arith)
          ∙ (sym (span-after block x over)
          ∙ ap (λ (b : Bool). b || span_has block x) (sym (span-after block k past)))
    ]
  ]
]

or-three : (a b c : Bool) → ((a || b) || c) ≡ (a || (b || c))
or-three true b c = refl
or-three false b c = refl

-- a span before others that begin after it
apart-cons : (k : Span) (zs : List Span) → k.first ≤ k.end → All (λ (s : Span). k.end < s.first) zs → AreApart zs → AreApart (k ∷ zs)
apart-cons k zs proper after apart = record {
  proper = All-cons (λ (s : Span). s.first ≤ s.end) k zs proper apart.proper;
  apart = pairs;
}
  where
    pairs : (i j : ℕ) (d : Span) → i < j → j < length (k ∷ zs) → (get_or (k ∷ zs) i d).end < (get_or (k ∷ zs) j d).first
    pairs zero zero d less low = absurd (omega arith)
    pairs zero (suc j) d less low = after j d (omega arith)
    pairs (suc i) zero d less low = absurd (omega arith)
    pairs (suc i) (suc j) d less low = apart.apart i j d (omega arith) (omega arith)

-- what is left of a span and those after it
record AreJoined (k : Span) (xs ys : List Span) : Type 0 where
  apart : AreApart ys
  from : All (λ (s : Span). k.first ≤ s.first) ys
  blocks : (block : ℕ) → is_spanned ys block ≡ (span_has block k || is_spanned xs block)

module _ {S : Type 0} (R : S → Span → Span → Bool → S → Span → Span → Type 0) (step : (s : S) (x k : Span) (b : Bool) (t : S) (x' k' : Span) → R s x k b t x' k' → IsStep x k b x' k') where
  joined-from : (xs : List Span) (s : S) (k : Span) (ys : List Span) → DedupsFrom R s k xs ys → k.first ≤ k.end → AreProper xs → Ascend k xs → AreJoined k xs ys
  joined-from [] s k ys h proper rest up = subst (λ (ss : List Span). AreJoined k [] ss) (sym h) (record {
    apart = apart-cons k [] proper (All-nil (λ (s : Span). k.end < s.first)) (record { proper = All-nil (λ (s : Span). s.first ≤ s.end); apart = λ i j d less low. absurd (omega arith) });
    from = All-cons (λ (s : Span). k.first ≤ s.first) k [] (omega arith) (All-nil (λ (s : Span). k.first ≤ s.first));
    blocks = λ block. refl;
  })
  joined-from (x ∷ xs) s k ys h proper rest up =
      let P : Span → Type 0 = λ s. s.first ≤ s.end in
      let here : x.first ≤ x.end = All-head P x xs rest in
      let others : AreProper xs = All-tail P x xs rest in
      let first : k.first ≤ x.first = up.0 in
      elim (one-or-two x k h.0 h.2 h.3 (step s x k h.0 h.1 h.2 h.3 h.4)) as (λ _. AreJoined k (x ∷ xs) ys) [
        | inl one ↦
            let both : Span = both_of k x in
            let told : DedupsFrom R h.1 h.3 xs ys = subst (λ (b : Bool). MatchBool b (DedupsFrom R h.1 h.3 xs ys) ((zs : List Span) × DedupsFrom R h.1 h.2 xs zs × (ys ≡ h.3 ∷ zs))) one.0 h.5 in
            let joined : AreJoined both xs ys = joined-from xs h.1 both ys (subst (λ (u : Span). DedupsFrom R h.1 u xs ys) one.1 told) (omega arith) others (ascend-from both x xs first up.1) in
            record {
              apart = joined.apart;
              from = joined.from;
              blocks = λ block. joined.blocks block ∙ (ap (λ (b : Bool). b || is_spanned xs block) (both-has block k x proper first one.2) ∙ or-three (span_has block k) (span_has block x) (is_spanned xs block));
            }
        | inr two ↦
            let told : (zs : List Span) × DedupsFrom R h.1 h.2 xs zs × (ys ≡ h.3 ∷ zs) = subst (λ (b : Bool). MatchBool b (DedupsFrom R h.1 h.3 xs ys) ((zs : List Span) × DedupsFrom R h.1 h.2 xs zs × (ys ≡ h.3 ∷ zs))) two.0 h.5 in
            let zs : List Span = told.0 in
            let joined : AreJoined x xs zs = joined-from xs h.1 x zs (subst (λ (u : Span). DedupsFrom R h.1 u xs zs) two.1 told.1) here others up.1 in
            let is : ys ≡ k ∷ zs = told.2 ∙ ap (λ (u : Span). u ∷ zs) two.2 in
            let less : k.end < x.first = two.3 in
            subst (λ (ss : List Span). AreJoined k (x ∷ xs) ss) (sym is) (record {
              apart = apart-cons k zs proper (λ i d low. let more : x.first ≤ (get_or zs i d).first = joined.from i d low in omega arith) joined.apart;
              from = All-cons (λ (s : Span). k.first ≤ s.first) k zs (omega arith) (λ i d low. let more : x.first ≤ (get_or zs i d).first = joined.from i d low in omega arith);
              blocks = λ block. ap (λ (b : Bool). span_has block k || b) (joined.blocks block);
            })
      ]

-- joined so, they are apart, and have the same blocks
pub joined-in-place : {S : Type 0} (R : S → Span → Span → Bool → S → Span → Span → Type 0) (s : S) (xs ys : List Span) → IsDeduped R s xs ys → ((s : S) (x k : Span) (b : Bool) (t : S) (x' k' : Span) → R s x k b t x' k' → IsStep x k b x' k')
    → AreProper xs → IsNonDecreasingBy (λ (t : Span). t.first) xs → AreApart ys × ((block : ℕ) → is_spanned ys block ≡ is_spanned xs block)
joined-in-place R s [] ys h step proper up = subst (λ (ss : List Span). AreApart ss × ((block : ℕ) → is_spanned ss block ≡ is_spanned [] block)) (sym h.told)
    (record { proper = All-nil (λ (s : Span). s.first ≤ s.end); apart = λ i j d less low. absurd (omega arith) }, λ block. refl)
joined-in-place R s (x ∷ xs) ys h step proper up =
    let P : Span → Type 0 = λ s. s.first ≤ s.end in
    let joined : AreJoined x xs ys = joined-from R step xs s x ys h.told (All-head P x xs proper) (All-tail P x xs proper) (ascend-all x xs up) in
    (joined.apart, joined.blocks)
