-- What a woven list has of the lists that it is woven of.
use Rattle.std.proofs.Common.{◌≡◌, ◌+◌, ◌≤◌, ◌<◌, Bool, true, false, cond, List, [], ◌∷◌, Some, ◌⊎◌, inl, inr, refl, ap, sym, ◌∙◌, subst, arith}
use Rattle.std.specs.Prelude.{count_by, find, filter}
use Rattle.std.specs.List.{list_any}
use Rattle.std.proofs.lemmas.Bool.{cases_lt}
use Rattle.std.proofs.lemmas.List.Sums.{sum_by-cons}
use Rattle.apfs_model.specs.Lists.{In}
use Rattle.apfs_model.proofs.BoolTests.{test_or, clash, left-or, right-or, never-true, either-from}
use Rattle.view_rules.specs.Words.{IsClear}
use Rattle.rule_changes.specs.Changes.{Weaves, ended, stays, differs}

-- ---- tests of lists
pub one-more : {X : Type 0} (p : X → Bool) (x : X) (xs : List X) → count_by p (x ∷ xs) ≡ cond (p x) 1 0 + count_by p xs
one-more p x xs = sum_by-cons (λ y. cond (p y) 1 0) x xs

pub one-yes : {X : Type 0} (p : X → Bool) (x : X) (xs : List X) → p x ≡ true → count_by p (x ∷ xs) ≡ 1 + count_by p xs
one-yes p x xs t = one-more p x xs ∙ ap (λ b. cond b 1 0 + count_by p xs) t

pub one-no : {X : Type 0} (p : X → Bool) (x : X) (xs : List X) → p x ≡ false → count_by p (x ∷ xs) ≡ 0 + count_by p xs
one-no p x xs t = one-more p x xs ∙ ap (λ b. cond b 1 0 + count_by p xs) t

pub any-in : {X : Type 0} (p : X → Bool) (xs : List X) (x : X) → In x xs → p x ≡ true → list_any p xs ≡ true
any-in p [] x h t = absurd h
any-in p (y ∷ xs) x (inl e) t = left-or (p y) (list_any p xs) (subst (λ z. p z ≡ true) e t)
any-in p (y ∷ xs) x (inr h) t = right-or (p y) (list_any p xs) (any-in p xs x h t)

pub none-in : {X : Type 0} (p : X → Bool) (xs : List X) → list_any p xs ≡ false → (x : X) → In x xs → p x ≡ false
none-in p xs none x h = never-true (p x) (λ t. clash (list_any p xs) (any-in p xs x h t) none)

pub some-in : {X : Type 0} (p : X → Bool) (xs : List X) → list_any p xs ≡ true → (x : X) × (In x xs × (p x ≡ true))
some-in p [] t = clash false t refl
some-in {X} p (y ∷ xs) t = elim (either-from (p y) (list_any p xs) t) as (λ _. (x : X) × (In x (y ∷ xs) × (p x ≡ true))) [
  | inl here ↦ (y, (inl refl, here))
  | inr there ↦ let r = some-in p xs there in (r.0, (inr r.1.0, r.1.1))
]

pub counted : {X : Type 0} (p : X → Bool) (xs : List X) (x : X) → In x xs → p x ≡ true → 0 < count_by p xs
counted p [] x h t = absurd h
counted p (y ∷ xs) x (inl e) t =
    let more = one-yes p y xs (subst (λ z. p z ≡ true) e t) in
    omega arith
counted p (y ∷ xs) x (inr h) t =
    let more = one-more p y xs in
    let rest : 0 < count_by p xs = counted p xs x h t in
    omega arith

pub zero-head : {X : Type 0} (p : X → Bool) (x : X) (xs : List X) → count_by p (x ∷ xs) ≡ 0 → (p x ≡ false) × (count_by p xs ≡ 0)
zero-head p x xs e =
    let more = one-more p x xs in
    (never-true (p x) (λ t. let here = one-yes p x xs t in absurd (omega arith)), omega arith)

pub some-counted : {X : Type 0} (p : X → Bool) (xs : List X) → 0 < count_by p xs → (x : X) × (In x xs × (p x ≡ true))
some-counted p [] l = let none : count_by p [] ≡ 0 = refl in absurd (omega arith)
some-counted {X} p (y ∷ xs) l = elim (test_or (p y)) as (λ _. (x : X) × (In x (y ∷ xs) × (p x ≡ true))) [
  | inl here ↦ (y, (inl refl, here))
  | inr calm ↦
      let more = one-no p y xs calm in
      let r = some-counted p xs (omega arith) in (r.0, (inr r.1.0, r.1.1))
]

-- what passes one test passes another, which nothing passes
pub none-counted : {X : Type 0} (p q : X → Bool) → ((x : X) → p x ≡ true → q x ≡ true) → (xs : List X) → list_any q xs ≡ false → count_by p xs ≡ 0
none-counted p q more xs none = elim (cases_lt 0 (count_by p xs)) as (λ _. count_by p xs ≡ 0) [
  | inl l ↦ let r = some-counted p xs l in clash (q r.0) (more r.0 r.1.1) (none-in q xs none r.0 r.1.0)
  | inr l ↦ omega arith
]

pub found-only : {X : Type 0} (p : X → Bool) (xs : List X) → count_by p xs ≤ 1 → (x : X) → In x xs → p x ≡ true → find p xs ≡ Some x
found-only p [] once x h t = absurd h
found-only p (y ∷ xs) once x (inl e) t = ap (λ b. cond b (Some y) (find p xs)) (subst (λ z. p z ≡ true) e t) ∙ ap Some (sym e)
found-only p (y ∷ xs) once x (inr h) t = elim (test_or (p y)) as (λ _. find p (y ∷ xs) ≡ Some x) [
  | inl here ↦
      let more = one-yes p y xs here in
      let rest : 0 < count_by p xs = counted p xs x h t in
      absurd (omega arith)
  | inr calm ↦
      let more = one-no p y xs calm in
      ap (λ b. cond b (Some y) (find p xs)) calm ∙ found-only p xs (omega arith) x h t
]

-- ---- woven lists
pub in-stays : {X : Type 0} {all same other : List X} → Weaves all same other → (x : X) → In x same → In x all
in-stays ended x h = absurd h
in-stays (stays y all same other w) x (inl e) = inl e
in-stays (stays y all same other w) x (inr h) = inr (in-stays w x h)
in-stays (differs y all same other w) x h = inr (in-stays w x h)

pub turned : {X : Type 0} {all same other : List X} → Weaves all same other → Weaves all other same
turned ended = ended
turned (stays y all same other w) = differs y all other same (turned w)
turned (differs y all same other w) = stays y all other same (turned w)

pub in-differs : {X : Type 0} {all same other : List X} → Weaves all same other → (x : X) → In x other → In x all
in-differs w = in-stays (turned w)

pub in-woven : {X : Type 0} {all same other : List X} → Weaves all same other → (x : X) → In x all → In x same ⊎ In x other
in-woven ended x h = absurd h
in-woven (stays y all same other w) x (inl e) = inl (inl e)
in-woven (stays y all same other w) x (inr h) = elim (in-woven w x h) as (λ _. In x (y ∷ same) ⊎ In x other) [ inl a ↦ inl (inr a) | inr b ↦ inr b ]
in-woven (differs y all same other w) x (inl e) = inr (inl e)
in-woven (differs y all same other w) x (inr h) = elim (in-woven w x h) as (λ _. In x same ⊎ In x (y ∷ other)) [ inl a ↦ inl a | inr b ↦ inr (inr b) ]

pub count-woven : {X : Type 0} (p : X → Bool) {all same other : List X} → Weaves all same other → count_by p all ≡ count_by p same + count_by p other
count-woven p ended = let none : count_by p [] ≡ 0 = refl in omega arith
count-woven p (stays y all same other w) =
    let here = one-more p y all in let there = one-more p y same in
    let rest : count_by p all ≡ count_by p same + count_by p other = count-woven p w in
    omega arith
count-woven p (differs y all same other w) =
    let here = one-more p y all in let there = one-more p y other in
    let rest : count_by p all ≡ count_by p same + count_by p other = count-woven p w in
    omega arith

pub find-stays : {X : Type 0} (p : X → Bool) {all same other : List X} → Weaves all same other → count_by p other ≡ 0 → find p all ≡ find p same
find-stays p ended none = refl
find-stays p (stays y all same other w) none = ap (λ r. cond (p y) (Some y) r) (find-stays p w none)
find-stays p (differs y all same other w) none =
    let z = zero-head p y other none in
    ap (λ b. cond b (Some y) (find p all)) z.0 ∙ find-stays p w z.1

pub filter-stays : {X : Type 0} (p : X → Bool) {all same other : List X} → Weaves all same other → count_by p other ≡ 0 → filter p all ≡ filter p same
filter-stays p ended none = refl
filter-stays p (stays y all same other w) none = ap (λ r. cond (p y) (y ∷ r) r) (filter-stays p w none)
filter-stays p (differs y all same other w) none =
    let z = zero-head p y other none in
    ap (λ b. cond b (y ∷ filter p all) (filter p all)) z.0 ∙ filter-stays p w z.1

-- ---- a list before and after
pub count-same : {X : Type 0} (p : X → Bool) {before after gone come same : List X} → Weaves before same gone → Weaves after same come → count_by p gone ≡ 0 → count_by p come ≡ 0 → count_by p after ≡ count_by p before
count-same p left made g c = let a = count-woven p left in let b = count-woven p made in omega arith

-- where at most one item passes, it is the same one, or it was among what is gone, and is among what has come
pub find_either : {X : Type 0} (p : X → Bool) {before after gone come same : List X} → Weaves before same gone → Weaves after same come → count_by p before ≤ 1 → count_by p after ≤ 1 → (find p after ≡ find p before) ⊎ ((find p before ≡ find p gone) × (find p after ≡ find p come))
find_either p {before} {after} {gone} {come} {same} left made b a =
    let l = count-woven p left in
    let m = count-woven p made in
    elim (cases_lt 0 (count_by p same)) as (λ _. (find p after ≡ find p before) ⊎ ((find p before ≡ find p gone) × (find p after ≡ find p come))) [
      | inl some ↦ inl (find-stays p made (omega arith) ∙ sym (find-stays p left (omega arith)))
      | inr none ↦ inr (find-stays p (turned left) (omega arith), find-stays p (turned made) (omega arith))
    ]

-- a rule of items that what is woven keeps is kept by the whole
pub clear-woven : {X : Type 0} {breaks : X → Bool} {all same other : List X} → Weaves all same other → IsClear breaks same → IsClear breaks other → IsClear breaks all
clear-woven {X} {breaks} w s o x h = elim (in-woven w x h) as (λ _. breaks x ≡ false) [ inl a ↦ s x a | inr b ↦ o x b ]

-- a rule of items that held before holds after, if it does of what has come
pub clear-after : {X : Type 0} {breaks : X → Bool} {before after gone come same : List X} → Weaves before same gone → Weaves after same come → IsClear breaks before → IsClear breaks come → IsClear breaks after
clear-after left made b c = clear-woven made (λ x h. b x (in-stays left x h)) c
