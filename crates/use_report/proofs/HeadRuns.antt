-- The views of a set, by the runs of their heads.
use Rattle.std.proofs.Common.{◌≡◌, ℕ, zero, suc, ◌+◌, ◌-◌, ◌<◌, ◌≤◌, Bool, true, false, ◌&&◌, ◌||◌, ◌==◌, nat_lt, List, [], ◌∷◌, ◌++◌, map, length, inl, inr, Option, None, Some, is_some, if◌then◌else◌, refl, ap, sym, ◌∙◌, arith}
use Rattle.std.specs.Prelude.{min}
use Rattle.std.proofs.lemmas.Bool.Decides.{nat_tests}
use Rattle.apfs_model.proofs.BoolTests.{test_or, equal-from, unequal-from, from-below, below-from, both-true, left-true, right-true, never-true}
use Rattle.bit_lanes.specs.Places.{is_from}
use Rattle.piece_count.specs.Covered.{runs_at, is_among}
use Rattle.piece_count.specs.declared.piece.ViewRun.{ViewRun}
use Rattle.piece_count.specs.declared.piece.Views.{Views}
use Rattle.view_sweep.specs.Sets.{set_at}
use Rattle.view_sweep.specs.declared.sets.ViewSet.{ViewSet}
use Rattle.view_sweep.specs.declared.runs.Run.{Run}
use Rattle.view_sweep.specs.Runs.{has_place, IsLeast}
use Rattle.view_sweep.proofs.Rises.{place-low, place-high, place-is, one-test, has-put, has-none}
use Rattle.use_report.specs.Runs.{head_place, AreHeadRuns, view_run, AreViewsOf, AreOwnSets}

-- ---- the live view

pub live-is : (set : List Run) (many : ℕ) (found : Option ℕ) → 0 < many → AreHeadRuns many set → IsLeast set (many - 1) found → is_some found ≡ has_place set (many - 1)
live-is set many None some runs none = sym (none many (many - 1) (omega arith) (omega arith))
live-is set many (Some p) some runs least =
    let low : p < many = runs.inside p least.is_in in
    let above : many - 1 ≤ p = least.above in
    let same : p ≡ many - 1 = omega arith in
    sym (ap (has_place set) (sym same) ∙ least.is_in)

and-false : (b : Bool) → (b && false) ≡ false
and-false true = refl
and-false false = refl

and-true : (b : Bool) → (b && true) ≡ b
and-true true = refl
and-true false = refl

pub no-live : (runs : List Run) (live : Bool) (view : ℕ) → runs ≡ [] → live ≡ false → has_place runs view ≡ ((view == 0) && live)
no-live runs live view e f = ap (λ (xs : List Run). has_place xs view) e ∙ (has-none view ∙ sym (ap (λ b. (view == 0) && b) f ∙ and-false (view == 0)))

first-one : (view : ℕ) → is_from 0 1 view ≡ (view == 0)
first-one view = grind (arith, nat_tests)

pub one-live : (old new : List Run) (live : Bool) (view : ℕ) → old ≡ [] → new ≡ old ++ record { from = 0; end = 1 } ∷ [] → live ≡ true → has_place new view ≡ ((view == 0) && live)
one-live old new live view e n f =
    ap (λ (xs : List Run). has_place xs view) n
    ∙ (has-put old (record { from = 0; end = 1 }) view
    ∙ (ap (λ (xs : List Run). has_place xs view || is_from 0 1 view) e
    ∙ (ap (λ b. b || is_from 0 1 view) (has-none view)
    ∙ (first-one view ∙ sym (ap (λ b. (view == 0) && b) f ∙ and-true (view == 0))))))

-- ---- the views after those of a run of heads

pub next-is : (from end many view : ℕ) → 0 < many → view < many → is_from (from + 1) (min end (many - 1) + 1) view ≡ (nat_lt 0 view && is_from from end (view - 1))
next-is from end many view some low = one-test (is_from (from + 1) (min end (many - 1) + 1) view) (nat_lt 0 view && is_from from end (view - 1))
    (λ e.
    let above : from + 1 ≤ view = place-low (from + 1) (min end (many - 1) + 1) view e in
    let below : view < min end (many - 1) + 1 = place-high (from + 1) (min end (many - 1) + 1) view e in
    both-true (nat_lt 0 view) (is_from from end (view - 1)) (from-below 0 view (omega arith)) (place-is from end (view - 1) (omega arith) (grind (arith, nat_tests))))
    (λ e.
    let later : 0 < view = below-from 0 view (left-true (nat_lt 0 view) (is_from from end (view - 1)) e) in
    let here = right-true (nat_lt 0 view) (is_from from end (view - 1)) e in
    let above : from ≤ view - 1 = place-low from end (view - 1) here in
    let below : view - 1 < end = place-high from end (view - 1) here in
    place-is (from + 1) (min end (many - 1) + 1) view (omega arith) (grind (arith, nat_tests)))

pub no-next : (from end many view : ℕ) → from + 1 ≡ many → view < many → (nat_lt 0 view && is_from from end (view - 1)) ≡ false
no-next from end many view last low = never-true (nat_lt 0 view && is_from from end (view - 1)) (λ e.
    let later : 0 < view = below-from 0 view (left-true (nat_lt 0 view) (is_from from end (view - 1)) e) in
    let above : from ≤ view - 1 = place-low from end (view - 1) (right-true (nat_lt 0 view) (is_from from end (view - 1)) e) in
    omega arith)

or-none : (b : Bool) → b ≡ (b || false)
or-none true = refl
or-none false = refl

pub none-next : (runs : List Run) (from end many view : ℕ) → from + 1 ≡ many → view < many → has_place runs view ≡ (has_place runs view || (nat_lt 0 view && is_from from end (view - 1)))
none-next runs from end many view last low = or-none (has_place runs view) ∙ ap (λ b. has_place runs view || b) (sym (no-next from end many view last low))

-- ---- all views

or-three : (a b c : Bool) → ((a || b) || c) ≡ (a || (b || c))
or-three true b c = refl
or-three false b c = refl

and-or : (a b c : Bool) → ((a && b) || (a && c)) ≡ (a && (b || c))
and-or true b c = refl
and-or false b c = refl

-- a view so far: the live one, or one after a head of some runs
abbrev pub so_far : List Run → ℕ → List Run → ℕ → Bool
so_far set many some view = ((view == 0) && has_place set (many - 1)) || (nat_lt 0 view && has_place some (view - 1))

pub far-none : (set : List Run) (many : ℕ) (has : Bool) (view : ℕ) → has ≡ ((view == 0) && has_place set (many - 1)) → has ≡ so_far set many [] view
far-none set many has view e = e ∙ (or-none _ ∙ ap (λ b. ((view == 0) && has_place set (many - 1)) || b) (sym (ap (λ b. nat_lt 0 view && b) (has-none (view - 1)) ∙ and-false (nat_lt 0 view))))

pub far-next : (set : List Run) (many : ℕ) (some more : List Run) (run : Run) (old new : Bool) (view : ℕ) → more ≡ some ++ run ∷ [] → old ≡ so_far set many some view → new ≡ (old || (nat_lt 0 view && is_from run.from run.end (view - 1))) → new ≡ so_far set many more view
far-next set many some more run old new view e a b =
    b ∙ (ap (λ x. x || (nat_lt 0 view && is_from run.from run.end (view - 1))) a
    ∙ (or-three ((view == 0) && has_place set (many - 1)) (nat_lt 0 view && has_place some (view - 1)) (nat_lt 0 view && is_from run.from run.end (view - 1))
    ∙ (ap (λ x. ((view == 0) && has_place set (many - 1)) || x) (and-or (nat_lt 0 view) (has_place some (view - 1)) (is_from run.from run.end (view - 1)))
    ∙ ap (λ x. ((view == 0) && has_place set (many - 1)) || (nat_lt 0 view && x)) (sym (ap (λ (xs : List Run). has_place xs (view - 1)) e ∙ has-put some run (view - 1))))))

head-by : (set : List Run) (many view : ℕ) (b : Bool) → (view == 0) ≡ b → (((view == 0) && has_place set (many - 1)) || (nat_lt 0 view && has_place set (view - 1))) ≡ has_place set (if b then many - 1 else view - 1)
head-by set many view true e =
    let zero : nat_lt 0 view ≡ false = grind (arith, nat_tests) in
    ap (λ x. (x && has_place set (many - 1)) || (nat_lt 0 view && has_place set (view - 1))) e ∙ (ap (λ x. has_place set (many - 1) || (x && has_place set (view - 1))) zero ∙ sym (or-none (has_place set (many - 1))))
head-by set many view false e =
    let more : nat_lt 0 view ≡ true = grind (arith, nat_tests) in
    ap (λ x. (x && has_place set (many - 1)) || (nat_lt 0 view && has_place set (view - 1))) e ∙ ap (λ x. x && has_place set (view - 1)) more

pub far-all : (set some : List Run) (many : ℕ) (has : Bool) (view : ℕ) → some ≡ set → has ≡ so_far set many some view → has ≡ has_place set (head_place many view)
far-all set some many has view e a = a ∙ (ap (λ (xs : List Run). so_far set many xs view) e ∙ head-by set many view (view == 0) refl)

-- ---- sets of views

-- runs are told over as pieces are counted by them
pub among-is : (runs : List Run) (view : ℕ) → is_among (map view_run runs) view ≡ has_place runs view
unfolding is_among has_place
among-is [] view = refl
among-is (run ∷ runs) view = ap (λ b. is_from run.from run.end view || b) (among-is runs view)

pub among-one : (runs : List ViewRun) (place view : ℕ) → runs ≡ record { from = place; to = place + 1 } ∷ [] → is_among runs view ≡ is_from place (place + 1) view
unfolding is_among
among-one runs place view e = ap (λ (rs : List ViewRun). is_among rs view) e ∙ sym (or-none (is_from place (place + 1) view))

-- what stood there still does, and the new set stands behind
runs-before : (sets more : List Views) (i : ℕ) → i < length sets → runs_at (sets ++ more) i ≡ runs_at sets i
unfolding runs_at
runs-before [] more i low = absurd (omega arith)
runs-before (set ∷ sets) more zero low = refl
runs-before (set ∷ sets) more (suc i) low = runs-before sets more i (omega arith)

runs-last : (sets : List Views) (set : Views) (i : ℕ) → i ≡ length sets → runs_at (sets ++ set ∷ []) i ≡ set.runs.items
unfolding runs_at
runs-last [] set zero e = refl
runs-last (s ∷ sets) set (suc i) e = runs-last sets set i (omega arith)
runs-last sets set i e = absurd (omega arith)

pub own-none : (sets : List Views) → AreOwnSets 0 sets
own-none sets i view low = absurd (omega arith)

pub own-kept : (sets : List Views) (set : Views) (many : ℕ) → many ≤ length sets → AreOwnSets many sets → AreOwnSets many (sets ++ set ∷ [])
own-kept sets set many long own i view low = ap (λ (rs : List ViewRun). is_among rs view) (runs-before sets (set ∷ []) i (omega arith)) ∙ own i view low

pub own-more : (sets : List Views) (set : Views) (many : ℕ) → length sets ≡ many → AreOwnSets many sets → ((view : ℕ) → is_among set.runs.items view ≡ is_from many (many + 1) view) → AreOwnSets (many + 1) (sets ++ set ∷ [])
own-more sets set many long own one i view low = elim (test_or (i == many)) as (λ _. is_among (runs_at (sets ++ set ∷ []) i) view ≡ is_from i (i + 1) view) [
  | inl y ↦
      let e : i ≡ many = equal-from i many y in
      ap (λ (rs : List ViewRun). is_among rs view) (runs-last sets set i (e ∙ sym long)) ∙ (one view ∙ ap (λ (n : ℕ). is_from n (n + 1) view) (sym e))
  | inr n ↦ let apart = unequal-from i many n in own-kept sets set many (omega arith) own i view (omega arith)
]

-- the first so many of some sets come after those of the views
abbrev pub AreFirst : List ViewSet → ℕ → ℕ → List Views → Type 0
AreFirst shared many some sets = (n view : ℕ) → n < some → view < many → is_among (runs_at sets (many + n)) view ≡ has_place (set_at shared n) (head_place many view)

pub first-more : (shared : List ViewSet) (many some : ℕ) (sets : List Views) (set : Views) → length sets ≡ many + some → AreFirst shared many some sets → AreViewsOf (set_at shared some) many set → AreFirst shared many (some + 1) (sets ++ set ∷ [])
first-more shared many some sets set long had one n view low in_view = elim (test_or (n == some)) as (λ _. is_among (runs_at (sets ++ set ∷ []) (many + n)) view ≡ has_place (set_at shared n) (head_place many view)) [
  | inl y ↦
      let e : n ≡ some = equal-from n some y in
      ap (λ (rs : List ViewRun). is_among rs view) (runs-last sets set (many + n) (omega arith)) ∙ (one view in_view ∙ ap (λ (k : ℕ). has_place (set_at shared k) (head_place many view)) (sym e))
  | inr o ↦
      let apart = unequal-from n some o in
      ap (λ (rs : List ViewRun). is_among rs view) (runs-before sets (set ∷ []) (many + n) (omega arith)) ∙ had n view (omega arith) in_view
]
