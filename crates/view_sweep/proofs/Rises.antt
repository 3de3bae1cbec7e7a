-- Runs that rise, and their places.
use Rattle.std.proofs.Common.{◌≡◌, ℕ, zero, suc, ◌+◌, ◌<◌, ◌≤◌, Bool, true, false, ◌&&◌, ◌||◌, nat_le, nat_lt, List, [], ◌∷◌, ◌++◌, length, map, take, drop, get_or, inl, inr, refl, ap, sym, ◌∙◌, subst, arith}
use Rattle.std.specs.Prelude.{◌↔◌, max, min, Contains}
use Rattle.std.specs.List.{list_any}
use Rattle.std.specs.List.Sorted.{IsPartitionPoint, IsPartitionedBy, IsPermutation}
use Rattle.std.proofs.lemmas.Bool.{cases_lt}
use Rattle.std.proofs.lemmas.Bool.Decides.{nat_tests}
use Rattle.std.proofs.lemmas.List.{take-append-drop}
use Rattle.std.proofs.lemmas.List.Folds.{list_any-append}
use Rattle.std.proofs.lemmas.List.Sorted.{IsPermutation-sym, Contains-permutation}
use Rattle.apfs_model.specs.Lists.{In}
use Rattle.apfs_model.proofs.BoolTests.{clash, left-or, right-or, either-from, both-true, left-true, right-true, never-true, upto-from, from-upto, below-from, from-below}
use Rattle.apfs_model.proofs.Searches.{in-left, in-right, in-append, in-map, from-map}
use Rattle.bit_lanes.specs.Places.{is_from}
use Rattle.view_sweep.specs.declared.runs.Run.{Run}
use Rattle.view_sweep.specs.Runs.{has_place, AreRisingFrom, AreRising, AreSome, begin_of, IsBehind, AreNone, IsLeastPlace, IsHolding, AreApart, clip, IsBetween}
use Rattle.view_sweep.proofs.Ranked.{in-place, place-in, in-push, in-take}

abbrev pub nowhere : Run
nowhere = record { from = 0; end = 0 }

-- ---- places

pub place-low : (from end p : ℕ) → is_from from end p ≡ true → from ≤ p
place-low from end p e = upto-from from p (left-true (nat_le from p) (nat_lt p end) e)

pub place-high : (from end p : ℕ) → is_from from end p ≡ true → p < end
place-high from end p e = below-from p end (right-true (nat_le from p) (nat_lt p end) e)

pub place-is : (from end p : ℕ) → from ≤ p → p < end → is_from from end p ≡ true
place-is from end p low high = both-true (nat_le from p) (nat_lt p end) (from-upto from p low) (from-below p end high)

-- two tests are one where each passes if the other does
pub one-test : (a b : Bool) → (a ≡ true → b ≡ true) → (b ≡ true → a ≡ true) → a ≡ b
one-test true b f g = sym (f refl)
one-test false true f g = clash false (g refl) refl
one-test false false f g = refl

-- a run has the place
pub record IsPlaceOf (runs : List Run) (p : ℕ) : Type 0 where
  pub run : Run
  pub listed : In run runs
  pub low : run.from ≤ p
  pub high : p < run.end

any-there : (runs : List Run) (p : ℕ) (r : Run) → In r runs → is_from r.from r.end p ≡ true → list_any (λ (run : Run). is_from run.from run.end p) runs ≡ true
any-there [] p r h e = absurd h
any-there (s ∷ ss) p r (inl q) e = left-or (is_from s.from s.end p) _ (subst (λ (x : Run). is_from x.from x.end p ≡ true) q e)
any-there (s ∷ ss) p r (inr h) e = right-or (is_from s.from s.end p) _ (any-there ss p r h e)

there-any : (runs : List Run) (p : ℕ) → list_any (λ (run : Run). is_from run.from run.end p) runs ≡ true → IsPlaceOf runs p
there-any [] p e = clash false e refl
there-any (s ∷ ss) p e = elim (either-from (is_from s.from s.end p) _ e) as (λ _. IsPlaceOf (s ∷ ss) p) [
  | inl t ↦ record { run = s; listed = inl refl; low = place-low s.from s.end p t; high = place-high s.from s.end p t }
  | inr t ↦ let k = there-any ss p t in record { run = k.run; listed = inr k.listed; low = k.low; high = k.high }
]

pub in-has : (runs : List Run) (p : ℕ) → IsPlaceOf runs p → has_place runs p ≡ true
unfolding has_place
in-has runs p k = any-there runs p k.run k.listed (place-is k.run.from k.run.end p k.low k.high)

pub has-in : (runs : List Run) (p : ℕ) → has_place runs p ≡ true → IsPlaceOf runs p
unfolding has_place
has-in runs p e = there-any runs p e

pub none-has : (runs : List Run) (p : ℕ) → (IsPlaceOf runs p → ⊥) → has_place runs p ≡ false
none-has runs p never = never-true (has_place runs p) (λ e. never (has-in runs p e))

last-or : (b : Bool) → (b || false) ≡ b
last-or true = refl
last-or false = refl

pub has-none : (p : ℕ) → has_place [] p ≡ false
unfolding has_place
has-none p = refl

pub has-both : (runs more : List Run) (p : ℕ) → has_place (runs ++ more) p ≡ (has_place runs p || has_place more p)
unfolding has_place
has-both runs more p = list_any-append (λ (r : Run). is_from r.from r.end p) runs more

pub has-one : (run : Run) (p : ℕ) → has_place (run ∷ []) p ≡ is_from run.from run.end p
unfolding has_place
has-one run p = last-or (is_from run.from run.end p)

pub has-put : (runs : List Run) (run : Run) (p : ℕ) → has_place (runs ++ run ∷ []) p ≡ (has_place runs p || is_from run.from run.end p)
has-put runs run p = has-both runs (run ∷ []) p ∙ ap (λ b. has_place runs p || b) (has-one run p)

-- in another order
moved : (xs ys : List Run) (p : ℕ) → IsPermutation xs ys → has_place xs p ≡ true → has_place ys p ≡ true
moved xs ys p order e =
    let k = has-in xs p e in
    let t = in-place xs k.run k.run k.listed in
    let c : Contains xs k.run = (t.0, t.1.0, sym t.1.1) in
    let d = Contains-permutation xs ys k.run order c in
    in-has ys p (record { run = k.run; listed = subst (λ (y : Run). In y ys) d.2 (place-in ys d.0 k.run d.1); low = k.low; high = k.high })

pub has-moved : (xs ys : List Run) (p : ℕ) → IsPermutation xs ys → has_place ys p ≡ has_place xs p
has-moved xs ys p order = one-test (has_place ys p) (has_place xs p) (moved ys xs p (IsPermutation-sym xs ys order)) (moved xs ys p order)

pub some-moved : (xs ys : List Run) → IsPermutation xs ys → AreSome xs → AreSome ys
some-moved xs ys order some r h =
    let t = in-place ys r r h in
    let c : Contains ys r = (t.0, t.1.0, sym t.1.1) in
    let d = Contains-permutation ys xs r (IsPermutation-sym xs ys order) c in
    some r (subst (λ (y : Run). In y xs) d.2 (place-in xs d.0 r d.1))

-- ---- runs that rise

rising-lower : (low lower : ℕ) (runs : List Run) → lower ≤ low → AreRisingFrom low runs → AreRisingFrom lower runs
rising-lower low lower [] le h = h
rising-lower low lower (r ∷ rs) le h = let begins : low ≤ r.from = h.0 in (omega arith, h.1)

pub rising-in : (low : ℕ) (runs : List Run) (r : Run) → AreRisingFrom low runs → In r runs → (low ≤ r.from) × (r.from < r.end)
rising-in low [] r h i = absurd i
rising-in low (x ∷ xs) r h (inl e) = subst (λ (y : Run). (low ≤ y.from) × (y.from < y.end)) (sym e) (h.0, h.1.0)
rising-in low (x ∷ xs) r h (inr k) =
    let t = rising-in x.end xs r h.1.1 k in
    let a : low ≤ x.from = h.0 in
    let b : x.from < x.end = h.1.0 in
    let c : x.end ≤ r.from = t.0 in
    (omega arith, t.1)

pub some-of : (runs : List Run) → AreRising runs → AreSome runs
some-of runs h r i = (rising-in 0 runs r h i).1

rising-drop : (low n : ℕ) (runs : List Run) → AreRisingFrom low runs → AreRisingFrom low (drop n runs)
rising-drop low zero runs h = h
rising-drop low (suc n) [] h = h
rising-drop low (suc n) (r ∷ rs) h =
    let a : low ≤ r.from = h.0 in
    let b : r.from < r.end = h.1.0 in
    rising-lower r.end low (drop n rs) (omega arith) (rising-drop r.end n rs h.1.1)

rising-take : (low n : ℕ) (runs : List Run) → AreRisingFrom low runs → AreRisingFrom low (take n runs)
rising-take low zero [] h = tt
rising-take low zero (r ∷ rs) h = tt
rising-take low (suc n) [] h = h
rising-take low (suc n) (r ∷ rs) h = (h.0, (h.1.0, rising-take r.end n rs h.1.1))

pub rising-part : (n m : ℕ) (runs : List Run) → AreRising runs → AreRising (take n (drop m runs))
rising-part n m runs h = rising-take 0 n (drop m runs) (rising-drop 0 m runs h)

pub rising-at : (low : ℕ) (runs : List Run) (j : ℕ) (d : Run) → AreRisingFrom low runs → j < length runs → (low ≤ (get_or runs j d).from) × ((get_or runs j d).from < (get_or runs j d).end)
rising-at low runs j d h within = rising-in low runs (get_or runs j d) h (place-in runs j d within)

pub rising-order : (low : ℕ) (runs : List Run) (i j : ℕ) (d : Run) → AreRisingFrom low runs → i < j → j < length runs → (get_or runs i d).end ≤ (get_or runs j d).from
rising-order low [] i j d h less within = absurd (omega arith)
rising-order low (x ∷ xs) zero zero d h less within = absurd (omega arith)
rising-order low (x ∷ xs) zero (suc j) d h less within = (rising-at x.end xs j d h.1.1 (omega arith)).0
rising-order low (x ∷ xs) (suc i) zero d h less within = absurd (omega arith)
rising-order low (x ∷ xs) (suc i) (suc j) d h less within = rising-order x.end xs i j d h.1.1 (omega arith) (omega arith)

-- a run begins and ends where one after it does, or earlier
rising-both : (runs : List Run) (i j : ℕ) (d : Run) → AreRising runs → i ≤ j → j < length runs → ((get_or runs i d).end ≤ (get_or runs j d).end) × ((get_or runs i d).from ≤ (get_or runs j d).from)
rising-both runs i j d h le within =
    let b : (get_or runs j d).from < (get_or runs j d).end = (rising-at 0 runs j d h within).1 in
    elim (cases_lt i j) as (λ _. ((get_or runs i d).end ≤ (get_or runs j d).end) × ((get_or runs i d).from ≤ (get_or runs j d).from)) [
      | inl less ↦
          let c : (get_or runs i d).end ≤ (get_or runs j d).from = rising-order 0 runs i j d h less within in
          let a : (get_or runs i d).from < (get_or runs i d).end = (rising-at 0 runs i d h (omega arith)).1 in
          (omega arith, omega arith)
      | inr past ↦
          let same : j ≡ i = omega arith in
          subst (λ (n : ℕ). ((get_or runs i d).end ≤ (get_or runs n d).end) × ((get_or runs i d).from ≤ (get_or runs n d).from)) (sym same) (omega arith, omega arith)
    ]

pub ends-split : (runs : List Run) (place : ℕ) → AreRising runs → IsPartitionedBy (λ (r : Run). nat_le r.end place) runs
ends-split runs place h i j d le within e =
    let a : (get_or runs i d).end ≤ (get_or runs j d).end = (rising-both runs i j d h le within).0 in
    let b : (get_or runs j d).end ≤ place = upto-from _ _ e in
    from-upto (get_or runs i d).end place (omega arith)

pub begins-split : (runs : List Run) (place : ℕ) → AreRising runs → IsPartitionedBy (λ (r : Run). nat_lt r.from place) runs
begins-split runs place h i j d le within e =
    let a : (get_or runs i d).from ≤ (get_or runs j d).from = (rising-both runs i j d h le within).1 in
    let b : (get_or runs j d).from < place = below-from _ _ e in
    from-below (get_or runs i d).from place (omega arith)

-- ---- the least place from one on

not-below : (a b : ℕ) → nat_lt a b ≡ false → b ≤ a
not-below a b e = grind (arith, nat_tests)

not-upto : (a b : ℕ) → nat_le a b ≡ false → b < a
not-upto a b e = grind (arith, nat_tests)

abbrev pub IsEnded : List Run → ℕ → ℕ → Type 0
IsEnded runs place at = IsPartitionPoint (λ (r : Run). nat_le r.end place ≡ true) (λ (r : Run). nat_le r.end place ≡ false) runs at

-- a place from one on is in no run that ends by it
late-run : (runs : List Run) (from at p : ℕ) → IsEnded runs from at → from ≤ p → IsPlaceOf runs p → (j : ℕ) × ((at ≤ j) × ((j < length runs) × (((get_or runs j nowhere).from ≤ p) × (p < (get_or runs j nowhere).end))))
late-run runs from at p split above k =
    let t = in-place runs k.run nowhere k.listed in
    let within : t.0 < length runs = t.1.0 in
    let low : (get_or runs t.0 nowhere).from ≤ p = subst (λ (r : Run). r.from ≤ p) t.1.1 k.low in
    let high : p < (get_or runs t.0 nowhere).end = subst (λ (r : Run). p < r.end) t.1.1 k.high in
    elim (cases_lt t.0 at) as (λ _. (j : ℕ) × ((at ≤ j) × ((j < length runs) × (((get_or runs j nowhere).from ≤ p) × (p < (get_or runs j nowhere).end))))) [
      | inl before ↦ let e : (get_or runs t.0 nowhere).end ≤ from = upto-from _ _ (split.0 t.0 nowhere (omega arith) before) in absurd (omega arith)
      | inr past ↦ (t.0, (past, (within, (low, high))))
    ]

pub least-none : (runs : List Run) (from at to : ℕ) → IsEnded runs from at → at ≡ length runs → AreNone runs from to
least-none runs from at to split e p above below =
    none-has runs p (λ k.
    let t = late-run runs from at p split above k in
    let a : at ≤ t.0 = t.1.0 in
    let b : t.0 < length runs = t.1.1.0 in
    omega arith)

-- no place before the least one
least-above : (runs : List Run) (from at place p : ℕ) → AreRising runs → IsEnded runs from at → at < length runs → place ≡ max (get_or runs at nowhere).from from → from ≤ p → p < place → IsPlaceOf runs p → ⊥
least-above runs from at place p h split within is above below k =
    let t = late-run runs from at p split above k in
    let low : (get_or runs t.0 nowhere).from ≤ p = t.1.1.1.0 in
    let some : (get_or runs at nowhere).from < (get_or runs at nowhere).end = (rising-at 0 runs at nowhere h within).1 in
    let past : from < (get_or runs at nowhere).end = not-upto (get_or runs at nowhere).end from (split.1 at nowhere (omega arith) within) in
    elim (cases_lt at t.0) as (λ _. ⊥) [
      | inl more ↦
          let c : (get_or runs at nowhere).end ≤ (get_or runs t.0 nowhere).from = rising-order 0 runs at t.0 nowhere h more t.1.1.0 in
          let q : place < (get_or runs at nowhere).end = grind (arith, nat_tests) in
          omega arith
      | inr less ↦
          let a : at ≤ t.0 = t.1.0 in
          let same : t.0 ≡ at = omega arith in
          let first : (get_or runs at nowhere).from ≤ p = subst (λ (n : ℕ). (get_or runs n nowhere).from ≤ p) same low in
          let q : place ≤ p = grind (arith, nat_tests) in
          omega arith
    ]

pub least-some : (runs : List Run) (from at place : ℕ) → AreRising runs → IsEnded runs from at → at < length runs → place ≡ max (get_or runs at nowhere).from from → IsLeastPlace runs from place
least-some runs from at place h split within is =
    let some : (get_or runs at nowhere).from < (get_or runs at nowhere).end = (rising-at 0 runs at nowhere h within).1 in
    let past : from < (get_or runs at nowhere).end = not-upto (get_or runs at nowhere).end from (split.1 at nowhere (omega arith) within) in
    record {
      above = grind (arith, nat_tests);
      is_in = in-has runs place (record { run = get_or runs at nowhere; listed = place-in runs at nowhere within; low = grind (arith, nat_tests); high = grind (arith, nat_tests) });
      least = λ p above below. none-has runs p (λ k. least-above runs from at place p h split within is above below k);
    }

-- ---- the runs that have places from one up to another

in-drop : (runs : List Run) (n : ℕ) (r : Run) → In r (drop n runs) → (j : ℕ) × ((n ≤ j) × ((j < length runs) × (r ≡ get_or runs j nowhere)))
in-drop runs zero r h = let t = in-place runs r nowhere h in (t.0, (omega arith, t.1))
in-drop [] (suc n) r h = absurd h
in-drop (x ∷ xs) (suc n) r h =
    let t = in-drop xs n r h in
    let a : n ≤ t.0 = t.1.0 in
    let b : t.0 < length xs = t.1.1.0 in
    (suc t.0, (omega arith, (omega arith, t.1.1.1)))

in-took : (runs : List Run) (n : ℕ) (r : Run) → In r (take n runs) → In r runs
in-took runs n r h = let t = in-take runs n r nowhere h in subst (λ (x : Run). In x runs) (sym t.1.1.1) (place-in runs t.0 nowhere t.1.1.0)

abbrev pub IsBegun : List Run → ℕ → ℕ → Type 0
IsBegun runs place at = IsPartitionPoint (λ (r : Run). nat_lt r.from place ≡ true) (λ (r : Run). nat_lt r.from place ≡ false) runs at

pub between-is : (low high : ℕ) (runs rest : List Run) (at n : ℕ) → rest ≡ drop at runs → IsEnded runs low at → IsBegun rest high n → IsBetween low high runs (take n rest)
between-is low high runs rest at n e split begun = record {
  front = take at runs;
  back = drop n rest;
  all = sym (ap (λ (xs : List Run). take at runs ++ xs) (take-append-drop n rest ∙ e) ∙ take-append-drop at runs);
  before = λ r h. let t = in-take runs at r nowhere h in subst (λ (x : Run). x.end ≤ low) (sym t.1.1.1) (upto-from _ _ (split.0 t.0 nowhere (omega arith) t.1.0));
  after = λ r h. let t = in-drop rest n r h in subst (λ (x : Run). high ≤ x.from) (sym t.1.1.1) (not-below (get_or rest t.0 nowhere).from high (begun.1 t.0 nowhere t.1.0 t.1.1.0));
  ends = λ r h. let t = in-drop runs at r (subst (In r) e (in-took rest n r h)) in subst (λ (x : Run). low < x.end) (sym t.1.1.1) (not-upto (get_or runs t.0 nowhere).end low (split.1 t.0 nowhere t.1.0 t.1.1.0));
  begins = λ r h. let t = in-take rest n r nowhere h in subst (λ (x : Run). x.from < high) (sym t.1.1.1) (below-from _ _ (begun.0 t.0 nowhere (omega arith) t.1.0));
}

-- ---- a part

rising-middle : (low : ℕ) (front these back : List Run) → AreRisingFrom low (front ++ (these ++ back)) → AreRisingFrom low these
rising-middle low [] [] back h = tt
rising-middle low [] (x ∷ xs) back h = (h.0, (h.1.0, rising-middle x.end [] xs back h.1.1))
rising-middle low (y ∷ ys) these back h =
    let a : low ≤ y.from = h.0 in
    let b : y.from < y.end = h.1.0 in
    rising-lower y.end low these (omega arith) (rising-middle y.end ys these back h.1.1)

clip-rising : (low high from end : ℕ) (these : List Run) → low < high → end ≤ from → AreRisingFrom from these → ((r : Run) → In r these → low < r.end) → ((r : Run) → In r these → r.from < high) → AreRisingFrom end (map (clip low high) these)
clip-rising low high from end [] order le h ends begins = tt
clip-rising low high from end (x ∷ xs) order le h ends begins =
    let a : from ≤ x.from = h.0 in
    let b : x.from < x.end = h.1.0 in
    let c : low < x.end = ends x (inl refl) in
    let d : x.from < high = begins x (inl refl) in
    (grind (arith, nat_tests), (grind (arith, nat_tests), clip-rising low high x.end (min x.end high) xs order (grind (arith, nat_tests)) h.1.1 (λ r i. ends r (inr i)) (λ r i. begins r (inr i))))

pub part-rising : (low high : ℕ) (runs these part : List Run) → low < high → AreRising runs → IsBetween low high runs these → part ≡ map (clip low high) these → AreRising part
part-rising low high runs these part order h b e = subst AreRising (sym e) (clip-rising low high 0 0 these order (omega arith) (rising-middle 0 b.front these b.back (subst AreRising b.all h)) b.ends b.begins)

place-of-part : (low high : ℕ) (runs these part : List Run) (k : ℕ) → IsBetween low high runs these → part ≡ map (clip low high) these → IsPlaceOf part k → (is_from low high k && has_place runs k) ≡ true
place-of-part low high runs these part k b e t =
    let s = from-map (clip low high) these t.run (subst (In t.run) e t.listed) in
    let at : (max s.0.from low ≤ k) × (k < min s.0.end high) = subst (λ (r : Run). (r.from ≤ k) × (k < r.end)) s.1.1 (t.low, t.high) in
    let above : max s.0.from low ≤ k = at.0 in
    let below : k < min s.0.end high = at.1 in
    let listed : In s.0 runs = subst (In s.0) (sym b.all) (in-right s.0 b.front (these ++ b.back) (in-left s.0 these b.back s.1.0)) in
    both-true (is_from low high k) (has_place runs k) (place-is low high k (grind (arith, nat_tests)) (grind (arith, nat_tests))) (in-has runs k (record { run = s.0; listed = listed; low = grind (arith, nat_tests); high = grind (arith, nat_tests) }))

part-of-place : (low high : ℕ) (runs these part : List Run) (k : ℕ) → IsBetween low high runs these → part ≡ map (clip low high) these → (is_from low high k && has_place runs k) ≡ true → has_place part k ≡ true
part-of-place low high runs these part k b e f =
    let inside : is_from low high k ≡ true = left-true (is_from low high k) (has_place runs k) f in
    let above : low ≤ k = place-low low high k inside in
    let below : k < high = place-high low high k inside in
    let t = has-in runs k (right-true (is_from low high k) (has_place runs k) f) in
    let from : t.run.from ≤ k = t.low in
    let end : k < t.run.end = t.high in
    let these-in : In t.run these = elim (in-append t.run b.front (these ++ b.back) (subst (In t.run) b.all t.listed)) as (λ _. In t.run these) [
      | inl before ↦ let x : t.run.end ≤ low = b.before t.run before in absurd (omega arith)
      | inr rest ↦ elim (in-append t.run these b.back rest) as (λ _. In t.run these) [
        | inl here ↦ here
        | inr after ↦ let x : high ≤ t.run.from = b.after t.run after in absurd (omega arith)
      ]
    ] in
    in-has part k (record { run = clip low high t.run; listed = subst (In (clip low high t.run)) (sym e) (in-map (clip low high) these t.run these-in); low = grind (arith, nat_tests); high = grind (arith, nat_tests) })

pub part-places : (low high : ℕ) (runs these part : List Run) (k : ℕ) → IsBetween low high runs these → part ≡ map (clip low high) these → has_place part k ≡ (is_from low high k && has_place runs k)
part-places low high runs these part k b e = one-test (has_place part k) (is_from low high k && has_place runs k)
    (λ f. place-of-part low high runs these part k b e (has-in part k f))
    (λ f. part-of-place low high runs these part k b e f)

-- ---- one run more

rising-append : (low k : ℕ) (runs more : List Run) → low ≤ k → AreRisingFrom low runs → AreRisingFrom k more → ((r : Run) → In r runs → r.end ≤ k) → AreRisingFrom low (runs ++ more)
rising-append low k [] more le h m ends = rising-lower k low more le m
rising-append low k (x ∷ xs) more le h m ends = (h.0, (h.1.0, rising-append x.end k xs more (ends x (inl refl)) h.1.1 m (λ r i. ends r (inr i))))

rising-front : (low : ℕ) (front : List Run) (last : Run) → AreRisingFrom low (front ++ last ∷ []) → AreRisingFrom low front
rising-front low [] last h = tt
rising-front low (x ∷ xs) last h = (h.0, (h.1.0, rising-front x.end xs last h.1.1))

front-ends : (low : ℕ) (front : List Run) (last r : Run) → AreRisingFrom low (front ++ last ∷ []) → In r front → r.end ≤ last.from
front-ends low [] last r h i = absurd i
front-ends low (x ∷ xs) last r h (inl e) = subst (λ (y : Run). y.end ≤ last.from) (sym e) (rising-in x.end (xs ++ last ∷ []) last h.1.1 (in-right last xs (last ∷ []) (inl refl))).0
front-ends low (x ∷ xs) last r h (inr k) = front-ends x.end xs last r h.1.1 k

pub put-rising : (front old new : List Run) (last run : Run) → old ≡ front ++ last ∷ [] → new ≡ (front ++ last ∷ []) ++ run ∷ [] → last.end < run.from → run.from < run.end → AreRising old → AreRising new
put-rising front old new last run e n gap some h =
    let was : AreRising (front ++ last ∷ []) = subst AreRising e h in
    let before : (r : Run) → In r (front ++ last ∷ []) → r.end ≤ run.from = λ r i. elim (in-push r front last i) as (λ _. r.end ≤ run.from) [
      | inl k ↦
          let a : r.end ≤ last.from = front-ends 0 front last r was k in
          let b : last.from < last.end = (rising-in 0 (front ++ last ∷ []) last was (in-right last front (last ∷ []) (inl refl))).1 in
          omega arith
      | inr q ↦ subst (λ (x : Run). x.end ≤ run.from) (sym q) (omega arith)
    ] in
    subst AreRising (sym n) (rising-append 0 run.from (front ++ last ∷ []) (run ∷ []) (omega arith) was (omega arith, (some, tt)) before)

abbrev pub longer : Run → Run → Run
longer last run = record { from = last.from; end = max last.end run.end }

pub longer-rising : (front old new : List Run) (last run : Run) → old ≡ front ++ last ∷ [] → new ≡ front ++ longer last run ∷ [] → AreRising old → AreRising new
longer-rising front old new last run e n h =
    let was : AreRising (front ++ last ∷ []) = subst AreRising e h in
    let some : last.from < last.end = (rising-in 0 (front ++ last ∷ []) last was (in-right last front (last ∷ []) (inl refl))).1 in
    subst AreRising (sym n) (rising-append 0 last.from front (longer last run ∷ []) (omega arith) (rising-front 0 front last was) (omega arith, (grind (arith, nat_tests), tt)) (λ r i. front-ends 0 front last r was i))

or-three : (a b c : Bool) → (a || (b || c)) ≡ ((a || b) || c)
or-three true b c = refl
or-three false b c = refl

longer-places : (last run : Run) (p : ℕ) → last.from ≤ run.from → run.from ≤ last.end → is_from last.from (max last.end run.end) p ≡ (is_from last.from last.end p || is_from run.from run.end p)
longer-places last run p begin meets = one-test (is_from last.from (max last.end run.end) p) (is_from last.from last.end p || is_from run.from run.end p)
    (λ e. let low : last.from ≤ p = place-low _ _ p e in let high : p < max last.end run.end = place-high _ _ p e in elim (cases_lt p last.end) as (λ _. (is_from last.from last.end p || is_from run.from run.end p) ≡ true) [
      | inl a ↦ left-or (is_from last.from last.end p) _ (place-is last.from last.end p low a)
      | inr b ↦ right-or (is_from last.from last.end p) _ (place-is run.from run.end p (omega arith) (grind (arith, nat_tests)))
    ])
    (λ e. elim (either-from (is_from last.from last.end p) (is_from run.from run.end p) e) as (λ _. is_from last.from (max last.end run.end) p ≡ true) [
      | inl a ↦
          let low : last.from ≤ p = place-low _ _ p a in
          let high : p < last.end = place-high _ _ p a in
          place-is last.from (max last.end run.end) p low (grind (arith, nat_tests))
      | inr b ↦
          let low : run.from ≤ p = place-low _ _ p b in
          let high : p < run.end = place-high _ _ p b in
          place-is last.from (max last.end run.end) p (omega arith) (grind (arith, nat_tests))
    ])

pub longer-has : (front old new : List Run) (last run : Run) (p : ℕ) → old ≡ front ++ last ∷ [] → new ≡ front ++ longer last run ∷ [] → last.from ≤ run.from → run.from ≤ last.end → has_place new p ≡ (has_place old p || is_from run.from run.end p)
longer-has front old new last run p e n begin meets =
    ap (λ (xs : List Run). has_place xs p) n
    ∙ (has-put front (longer last run) p
    ∙ (ap (λ b. has_place front p || b) (longer-places last run p begin meets)
    ∙ (or-three (has_place front p) (is_from last.from last.end p) (is_from run.from run.end p)
    ∙ ap (λ b. b || is_from run.from run.end p) (sym (ap (λ (xs : List Run). has_place xs p) e ∙ has-put front last p)))))

pub put-has : (old between new : List Run) (run : Run) (p : ℕ) → old ≡ between → new ≡ between ++ run ∷ [] → has_place new p ≡ (has_place old p || is_from run.from run.end p)
put-has old between new run p e n = ap (λ (xs : List Run). has_place xs p) n ∙ (has-put between run p ∙ ap (λ (xs : List Run). has_place xs p || is_from run.from run.end p) (sym e))

-- ---- many runs more

pub has-more : (fn old new more next : List Run) (run : Run) (p : ℕ) → next ≡ more ++ run ∷ [] → has_place old p ≡ (has_place fn p || has_place more p) → has_place new p ≡ (has_place old p || is_from run.from run.end p) → has_place new p ≡ (has_place fn p || has_place next p)
has-more fn old new more next run p e a b =
    b ∙ (ap (λ x. x || is_from run.from run.end p) a
    ∙ (sym (or-three (has_place fn p) (has_place more p) (is_from run.from run.end p))
    ∙ ap (λ x. has_place fn p || x) (sym (ap (λ (xs : List Run). has_place xs p) e ∙ has-put more run p))))

pub has-start : (runs : List Run) (p : ℕ) → has_place runs p ≡ (has_place runs p || has_place [] p)
has-start runs p = sym (ap (λ b. has_place runs p || b) (has-none p) ∙ last-or (has_place runs p))

-- each of some begins where the last of others does, or later
pub behind-all : (runs more : List Run) (k : ℕ) → AreRising runs → AreRising more → length runs ≡ k + 1 → 0 < length more → (get_or runs k nowhere).from ≤ (get_or more 0 nowhere).from → (r : Run) → In r more → IsBehind r.from runs
behind-all runs more k one other long some order r h s i =
    let t = in-place more r nowhere h in
    let u = in-place runs s nowhere i in
    let low : u.0 < length runs = u.1.0 in
    let a : (get_or more 0 nowhere).from ≤ (get_or more t.0 nowhere).from = (rising-both more 0 t.0 nowhere other (omega arith) t.1.0).1 in
    let b : (get_or runs u.0 nowhere).from ≤ (get_or runs k nowhere).from = (rising-both runs u.0 k nowhere one (omega arith) (omega arith)).1 in
    let c : r.from ≡ (get_or more t.0 nowhere).from = ap begin_of t.1.1 in
    let d : s.from ≡ (get_or runs u.0 nowhere).from = ap begin_of u.1.1 in
    omega arith

-- in the order in which they begin
pub begins-rise : (runs : List Run) (i j : ℕ) (d : Run) → AreRising runs → i ≤ j → j < length runs → begin_of (get_or runs i d) ≤ begin_of (get_or runs j d)
begins-rise runs i j d h le within = (rising-both runs i j d h le within).1

some-both : (runs more : List Run) → AreSome runs → AreSome more → AreSome (runs ++ more)
some-both runs more a b r h = elim (in-append r runs more h) as (λ _. r.from < r.end) [ inl i ↦ a r i | inr i ↦ b r i ]

pub sorted-some : (runs more both sorted : List Run) → AreRising runs → AreRising more → both ≡ runs ++ more → IsPermutation both sorted → AreSome sorted
sorted-some runs more both sorted a b e order = some-moved both sorted order (subst AreSome (sym e) (some-both runs more (some-of runs a) (some-of more b)))

pub sorted-has : (runs more both sorted none all : List Run) (p : ℕ) → both ≡ runs ++ more → IsPermutation both sorted → none ≡ [] → has_place all p ≡ (has_place none p || has_place sorted p) → has_place all p ≡ (has_place runs p || has_place more p)
sorted-has runs more both sorted none all p e order empty f =
    f ∙ (ap (λ (xs : List Run). has_place xs p || has_place sorted p) empty
    ∙ (ap (λ b. b || has_place sorted p) (has-none p)
    ∙ (has-moved both sorted p order
    ∙ (ap (λ (xs : List Run). has_place xs p) e ∙ has-both runs more p))))

-- ---- what two share

pub place-at : (others : List Run) (i p : ℕ) → i < length others → (get_or others i nowhere).from ≤ p → p < (get_or others i nowhere).end → has_place others p ≡ true
place-at others i p within low high = in-has others p (record { run = get_or others i nowhere; listed = place-in others i nowhere within; low = low; high = high })

pub apart-more : (runs others next : List Run) (x : Run) → next ≡ others ++ x ∷ [] → AreApart runs others → ((p : ℕ) → x.from ≤ p → p < x.end → has_place runs p ≡ false) → AreApart runs next
apart-more runs others next x e apart none p a b = elim (either-from (has_place others p) (is_from x.from x.end p) (sym (has-put others x p) ∙ (ap (λ (xs : List Run). has_place xs p) (sym e) ∙ b))) as (λ _. ⊥) [
  | inl c ↦ apart p a c
  | inr c ↦ clash (has_place runs p) a (none p (place-low x.from x.end p c) (place-high x.from x.end p c))
]

-- one run more, after the others
pub rising-put : (runs new : List Run) (run : Run) → new ≡ runs ++ run ∷ [] → ((r : Run) → In r runs → r.end ≤ run.from) → run.from < run.end → AreRising runs → AreRising new
rising-put runs new run e before some h = subst AreRising (sym e) (rising-append 0 run.from runs (run ∷ []) (omega arith) h (omega arith, (some, tt)) before)

-- the run that has a place
pub holding-is : (runs : List Run) (p at : ℕ) → IsEnded runs p at → at < length runs → (get_or runs at nowhere).from ≤ p → IsHolding runs p (get_or runs at nowhere)
holding-is runs p at split within low = record { listed = place-in runs at nowhere within; low = low; high = not-upto (get_or runs at nowhere).end p (split.1 at nowhere (omega arith) within) }

-- ---- the set of one place

pub one-place : (runs : List Run) (place k : ℕ) → runs ≡ record { from = place; end = place + 1 } ∷ [] → (has_place runs k ≡ true) ↔ (k ≡ place)
one-place runs place k e =
    let is : has_place runs k ≡ is_from place (place + 1) k = ap (λ (xs : List Run). has_place xs k) e ∙ has-one (record { from = place; end = place + 1 }) k in
    ((λ f. let low = place-low place (place + 1) k (sym is ∙ f) in let high = place-high place (place + 1) k (sym is ∙ f) in omega (arith, low, high)), (λ f. is ∙ place-is place (place + 1) k (omega (arith, f)) (omega (arith, f))))

-- runs that begin and end where others do are those
run_by : ℕ → ℕ → Run
run_by from end = record { from = from; end = end }

pub run-is : (r s : Run) → r.from ≡ s.from → r.end ≡ s.end → r ≡ s
unfolding run_by
run-is r s a b = let k : run_by r.from r.end ≡ run_by s.from s.end = cc in k
