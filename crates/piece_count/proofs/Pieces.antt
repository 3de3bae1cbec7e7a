-- What pieces add, one after the other.
use Rattle.std.proofs.Common.{◌≡◌, ℕ, ◌+◌, ◌<◌, ◌≤◌, Bool, true, false, ◌&&◌, ◌||◌, ◌==◌, List, [], ◌∷◌, ◌++◌, length, take, get_or, max, min, ◌⊎◌, inl, inr, refl, ap, sym, ◌∙◌, subst, arith}
use Rattle.std.specs.Prelude.{Contains}
use Rattle.std.specs.List.Sorted.{IsPermutation}
use Rattle.std.proofs.lemmas.List.{take_more, take_all}
use Rattle.std.proofs.lemmas.List.Folds.{list_any-append}
use Rattle.std.proofs.lemmas.List.Sorted.{Contains-permutation}
use Rattle.apfs_model.specs.Lists.{In}
use Rattle.apfs_model.proofs.BoolTests.{left-true, right-true, both-true, left-or, right-or, either-from, from-equal, equal-from, never-true}
use Rattle.piece_count.specs.Covered.{is_from, is_among, covers, covered_by}
use Rattle.piece_count.specs.Lone.{no_piece}
use Rattle.piece_count.specs.Tally.{has_none, grown, grown_all, grown_set, IsTally}
use Rattle.piece_count.specs.declared.piece.ViewRun.{ViewRun}
use Rattle.piece_count.specs.declared.piece.Views.{Views}
use Rattle.piece_count.specs.declared.piece.Piece.{Piece}
use Rattle.piece_count.specs.declared.tally.Tally.{Tally}
use Rattle.piece_count.proofs.Numbers.{from-low, from-high, from-is, one-test, any-there, there-any, got-from, got-in}
use Rattle.piece_count.proofs.Tallies.{tally-same}

-- ---- of several views
from-none : (from v : ℕ) → is_from from from v ≡ false
from-none from v = never-true (is_from from from v) (λ e. let low = from-low from from v e in let high = from-high from from v e in let q : ⊥ = omega (arith, low, high) in q)

-- of no view yet
pub grown-none : (blocks views : ℕ) (has : ℕ → ℕ → Bool) (from first end : ℕ) (t : Tally) → IsTally blocks views has t → IsTally blocks views (grown_all has from from first end) t
grown-none blocks views has from first end t h = tally-same blocks views has (grown_all has from from first end) t (λ v b l lb. one-test (has v b) (grown_all has from from first end v b)
    (λ e. left-or (has v b) (is_from from from v && is_from first end b) e)
    (λ e. elim (either-from (has v b) (is_from from from v && is_from first end b) e) as (λ _. has v b ≡ true) [
      | inl o ↦ o
      | inr n ↦ let z : true ≡ false = sym (left-true (is_from from from v) (is_from first end b) n) ∙ from-none from v in absurd (let q : ⊥ = cc in q)
    ])) h

-- of one view more
pub grown-one : (blocks views : ℕ) (has : ℕ → ℕ → Bool) (from view first end : ℕ) (t : Tally) → from ≤ view → IsTally blocks views (grown (grown_all has from view first end) view first end) t → IsTally blocks views (grown_all has from (view + 1) first end) t
grown-one blocks views has from view first end t up h =
    let before : ℕ → ℕ → Bool = grown_all has from view first end in
    let after : ℕ → ℕ → Bool = grown_all has from (view + 1) first end in
    tally-same blocks views (grown before view first end) after t (λ v b l lb.
    let r : Bool = is_from first end b in
    one-test (grown before view first end v b) (after v b)
    (λ e. elim (either-from (before v b) ((v == view) && r) e) as (λ _. after v b ≡ true) [
      | inl o ↦ elim (either-from (has v b) (is_from from view v && r) o) as (λ _. after v b ≡ true) [
        | inl k ↦ left-or (has v b) (is_from from (view + 1) v && r) k
        | inr k ↦
            let within = left-true (is_from from view v) r k in
            let low = from-low from view v within in
            let high = from-high from view v within in
            right-or (has v b) (is_from from (view + 1) v && r) (both-true (is_from from (view + 1) v) r (from-is from (view + 1) v low (omega (arith, high))) (right-true (is_from from view v) r k))
      ]
      | inr n ↦
          let s = equal-from v view (left-true (v == view) r n) in
          right-or (has v b) (is_from from (view + 1) v && r) (both-true (is_from from (view + 1) v) r (from-is from (view + 1) v (omega (arith, s, up)) (omega (arith, s))) (right-true (v == view) r n))
    ])
    (λ e. elim (either-from (has v b) (is_from from (view + 1) v && r) e) as (λ _. grown before view first end v b ≡ true) [
      | inl k ↦ left-or (before v b) ((v == view) && r) (left-or (has v b) (is_from from view v && r) k)
      | inr k ↦
          let within = left-true (is_from from (view + 1) v) r k in
          let there = right-true (is_from from (view + 1) v) r k in
          let low = from-low from (view + 1) v within in
          let high = from-high from (view + 1) v within in
          let c : (v < view) ⊎ (view ≤ v) = grind arith in
          elim c as (λ _. grown before view first end v b ≡ true) [
            | inl m ↦ left-or (before v b) ((v == view) && r) (right-or (has v b) (is_from from view v && r) (both-true (is_from from view v) r (from-is from view v low m) there))
            | inr m ↦ right-or (before v b) ((v == view) && r) (both-true (v == view) r (from-equal v view (omega (arith, m, high))) there)
          ]
    ])) h

-- of all of them
pub grown-last : (blocks views : ℕ) (has : ℕ → ℕ → Bool) (from view to first end : ℕ) (t : Tally) → to ≤ view → view ≤ max from to → IsTally blocks views (grown_all has from view first end) t → IsTally blocks views (grown_all has from to first end) t
grown-last blocks views has from view to first end t up down h =
    let part : (n m v b : ℕ) → ((v : ℕ) → from ≤ v → v < n → v < m) → grown_all has from n first end v b ≡ true → grown_all has from m first end v b ≡ true = λ n m v b f e.
    let r : Bool = is_from first end b in
    elim (either-from (has v b) (is_from from n v && r) e) as (λ _. grown_all has from m first end v b ≡ true) [
      | inl k ↦ left-or (has v b) (is_from from m v && r) k
      | inr k ↦
          let within = left-true (is_from from n v) r k in
          let low = from-low from n v within in
          right-or (has v b) (is_from from m v && r) (both-true (is_from from m v) r (from-is from m v low (f v low (from-high from n v within))) (right-true (is_from from n v) r k))
    ] in
    tally-same blocks views (grown_all has from view first end) (grown_all has from to first end) t (λ v b l lb. one-test (grown_all has from view first end v b) (grown_all has from to first end v b)
    (part view to v b (λ v a c. omega (arith, a, c, down)))
    (part to view v b (λ v a c. omega (arith, c, up)))) h

-- ---- of a set
pub or-none : (c : Bool) → (c || false) ≡ c
or-none true = refl
or-none false = refl

-- of no run yet
pub set-none : (blocks views : ℕ) (has : ℕ → ℕ → Bool) (runs : List ViewRun) (first end : ℕ) (t : Tally) → IsTally blocks views has t → IsTally blocks views (grown_set has (take 0 runs) first end) t
unfolding is_among
set-none blocks views has [] first end t h = tally-same blocks views has (grown_set has [] first end) t (λ v b l lb. sym (or-none (has v b))) h
set-none blocks views has (run ∷ runs) first end t h = tally-same blocks views has (grown_set has [] first end) t (λ v b l lb. sym (or-none (has v b))) h

-- what stands for a run where a list has none in a place
abbrev pub no_run : ViewRun
no_run = record { from = 0; to = 0 }

among-more : (runs : List ViewRun) (i v : ℕ) → i < length runs → is_among (take (i + 1) runs) v ≡ (is_among (take i runs) v || is_from (get_or runs i no_run).from (get_or runs i no_run).to v)
unfolding is_among
among-more runs i v low =
    let run : ViewRun = get_or runs i no_run in
    ap (λ (rs : List ViewRun). is_among rs v) (take_more runs i no_run low)
    ∙ (list_any-append (λ (r : ViewRun). is_from r.from r.to v) (take i runs) (run ∷ []) ∙ ap (λ c. is_among (take i runs) v || c) (or-none (is_from run.from run.to v)))

both-added : (has old more r : Bool) → ((has || (old && r)) || (more && r)) ≡ (has || ((old || more) && r))
both-added true old more r = refl
both-added false true true true = refl
both-added false true true false = refl
both-added false true false true = refl
both-added false true false false = refl
both-added false false more r = refl

-- of one run more
pub set-more : (blocks views : ℕ) (has : ℕ → ℕ → Bool) (runs : List ViewRun) (i to first end : ℕ) (t : Tally) → i < length runs → to ≡ min (get_or runs i no_run).to views →
    IsTally blocks views (grown_all (grown_set has (take i runs) first end) (get_or runs i no_run).from to first end) t → IsTally blocks views (grown_set has (take (i + 1) runs) first end) t
set-more blocks views has runs i to first end t low to_is h =
    let run : ViewRun = get_or runs i no_run in
    tally-same blocks views (grown_all (grown_set has (take i runs) first end) run.from to first end) (grown_set has (take (i + 1) runs) first end) t (λ v b l lb.
    let r : Bool = is_from first end b in
    let old : Bool = is_among (take i runs) v in
    let same : is_from run.from to v ≡ is_from run.from run.to v = one-test (is_from run.from to v) (is_from run.from run.to v)
    (λ e. let a = from-high run.from to v e in from-is run.from run.to v (from-low run.from to v e) (omega (arith, a, to_is)))
    (λ e. let a = from-high run.from run.to v e in from-is run.from to v (from-low run.from run.to v e) (omega (arith, a, to_is, l))) in
    ap (λ x. (has v b || (old && r)) || (x && r)) same ∙ (both-added (has v b) old (is_from run.from run.to v) r ∙ ap (λ x. has v b || (x && r)) (sym (among-more runs i v low)))) h

-- of all of them
pub set-last : (blocks views : ℕ) (has : ℕ → ℕ → Bool) (runs : List ViewRun) (i first end : ℕ) (t : Tally) → length runs ≤ i → IsTally blocks views (grown_set has (take i runs) first end) t → IsTally blocks views (grown_set has runs first end) t
set-last blocks views has runs i first end t high h = subst (λ (rs : List ViewRun). IsTally blocks views (grown_set has rs first end) t) (take_all i runs high) h

-- ---- of a piece
-- one piece more has its blocks in the views of its set
pub covered-push : (sets : List Views) (pieces : List Piece) (piece : Piece) (v b : ℕ) → covered_by sets (pieces ++ piece ∷ []) v b ≡ (covered_by sets pieces v b || covers sets piece v b)
unfolding covered_by
covered-push sets pieces piece v b = list_any-append (λ (p : Piece). covers sets p v b) pieces (piece ∷ []) ∙ ap (λ c. covered_by sets pieces v b || c) (or-none (covers sets piece v b))

pub covered-more : (sets : List Views) (pieces : List Piece) (i v b : ℕ) → i < length pieces → covered_by sets (take (i + 1) pieces) v b ≡ (covered_by sets (take i pieces) v b || covers sets (get_or pieces i no_piece) v b)
covered-more sets pieces i v b low = ap (λ (ps : List Piece). covered_by sets ps v b) (take_more pieces i no_piece low) ∙ covered-push sets (take i pieces) (get_or pieces i no_piece) v b

pub covers-within : (first end blocks b : ℕ) → b < blocks → is_from (min first blocks) (min end blocks) b ≡ is_from first end b
covers-within first end blocks b lb = one-test (is_from (min first blocks) (min end blocks) b) (is_from first end b)
    (λ e.
    let c = from-low (min first blocks) (min end blocks) b e in
    let d = from-high (min first blocks) (min end blocks) b e in
    from-is first end b (omega (arith, c, lb)) (omega (arith, d)))
    (λ e.
    let c = from-low first end b e in
    let d = from-high first end b e in
    from-is (min first blocks) (min end blocks) b (omega (arith, c)) (omega (arith, d, lb)))

pub none-covered : (sets : List Views) (pieces : List Piece) (v b : ℕ) → false ≡ covered_by sets (take 0 pieces) v b
unfolding covered_by
none-covered sets [] v b = refl
none-covered sets (p ∷ ps) v b = refl

pub piece-none : (blocks views : ℕ) (sets : List Views) (pieces : List Piece) (t : Tally) → IsTally blocks views has_none t → IsTally blocks views (covered_by sets (take 0 pieces)) t
piece-none blocks views sets pieces t h = tally-same blocks views has_none (covered_by sets (take 0 pieces)) t (λ v b l lb. none-covered sets pieces v b) h

-- ---- in another order
in-permuted : (xs ys : List Piece) → IsPermutation xs ys → (x : Piece) → In x xs → In x ys
in-permuted xs ys p x h =
    let t = got-from xs x x h in
    let c : Contains xs x = (t.0, t.1.0, t.1.1) in
    let d = Contains-permutation xs ys x p c in
    subst (λ (y : Piece). In y ys) d.2 (got-in ys d.0 x d.1)

pub covered-permuted : (sets : List Views) (xs ys : List Piece) → IsPermutation xs ys → (v b : ℕ) → covered_by sets xs v b ≡ true → covered_by sets ys v b ≡ true
unfolding covered_by
covered-permuted sets xs ys p v b e =
    let r = there-any (λ (p : Piece). covers sets p v b) xs e in
    any-there (λ (p : Piece). covers sets p v b) ys r.0 (in-permuted xs ys p r.0 r.1.0) r.1.1
