-- What is counted stays right, piece by piece.
use Rattle.std.proofs.Common.{◌≡◌, ℕ, ◌+◌, ◌-◌, ◌^◌, ◌<◌, ◌≤◌, Bool, true, false, not, ◌&&◌, ◌||◌, ◌==◌, nat_lt, List, Vec, Global, length, replicate, get_or, set, max, min, ◌⊎◌, inl, inr, refl, ap, ap₂, sym, ◌∙◌, arith}
use Rattle.std.specs.List.{range_with_len, list_any}
use Rattle.std.proofs.lemmas.List.{length-set, length-replicate, get_or-replicate, get_or-set_same, get_or-set_other}
use Rattle.apfs_model.proofs.BoolTests.{left-true, right-true, both-true, left-or, right-or, either-from, test_or, clash, below-from, from-below, from-equal, equal-from, unequal-from, never-true, not-true, false-not, denied}
use Rattle.piece_count.specs.Covered.{is_from, is_any, is_alone, count_below, nth_count}
use Rattle.piece_count.specs.Tally.{has_none, grown, reach_of, IsTop, IsTally}
use Rattle.piece_count.specs.declared.tally.Tally.{Tally}
use Rattle.piece_count.specs.declared.tally.ViewCount.{ViewCount}
use Rattle.piece_count.proofs.Numbers.{from-low, from-high, from-is, one-test, any-below, below-any, any-same, count-empty, count-bound, count-same, count-grown, count-ahead}

-- ---- who has a block alone
-- another view than one has a block
abbrev other_has : (ℕ → ℕ → Bool) → ℕ → ℕ → ℕ → Bool
other_has has view block other = not (other == view) && has other block

alone-same : (has also : ℕ → ℕ → Bool) (views view block : ℕ) → view < views → ((v : ℕ) → v < views → has v block ≡ also v block) → is_alone has views view block ≡ is_alone also views view block
unfolding is_alone
alone-same has also views view block low same =
    ap₂ (λ a b. a && not b) (same view low) (any-same (other_has has view block) (other_has also view block) views (λ v l. ap (λ b. not (v == view) && b) (same v l)))

any-alike : (has also : ℕ → ℕ → Bool) (views block : ℕ) → ((v : ℕ) → v < views → has v block ≡ also v block) → is_any has views block ≡ is_any also views block
unfolding is_any
any-alike has also views block same = any-same (λ v. has v block) (λ v. also v block) views same

-- what is counted by two tellings alike
pub tally-same : (blocks views : ℕ) (has also : ℕ → ℕ → Bool) (t : Tally) → ((v b : ℕ) → v < views → b < blocks → has v b ≡ also v b) → IsTally blocks views has t → IsTally blocks views also t
tally-same blocks views has also t same h =
    let low : t.at ≤ blocks = h.low in
    record {
      many = h.many;
      low = h.low;
      top = h.top;
      ahead = λ v b l up lb. sym (same v b l lb) ∙ h.ahead v b l up lb;
      held = λ v l. h.held v l ∙ count-same (has v) (also v) blocks (λ b lb. same v b l lb);
      only = λ v l. h.only v l ∙ count-same (is_alone has views v) (is_alone also views v) t.at (λ b lb. alone-same has also views v b l (λ w m. same w b m (omega (arith, lb, low))));
      all = h.all ∙ count-same (is_any has views) (is_any also views) blocks (λ b lb. any-alike has also views b (λ w m. same w b m lb));
    }

-- ---- a new one
none-from : (k : ℕ) → false ≡ is_from 0 0 k
none-from k = sym (never-true (is_from 0 0 k) (λ e. let high = from-high 0 0 k e in let q : ⊥ = omega (arith, high) in q))

alone-none : (views view block : ℕ) → is_alone has_none views view block ≡ false
unfolding is_alone
alone-none views view block = refl

any-none : (views block : ℕ) → is_any has_none views block ≡ false
unfolding is_any
any-none views block = never-true (list_any (λ v. false) (range_with_len 0 views)) (λ e. let r = below-any (λ v. false) views e in clash false r.1.1 refl)

below-zero : (block : ℕ) → false ≡ nat_lt block 0
below-zero block = sym (never-true (nat_lt block 0) (λ e. let low = below-from block 0 e in let q : ⊥ = omega (arith, low) in q))

abbrev no_count : ViewCount
no_count = record { held = 0; only = 0 }

pub tally-new : (blocks views : ℕ) (t : Tally) → 0 < views → t.counts.views.items ≡ replicate views no_count → t.reach.items ≡ replicate views 0 → t.counts.all ≡ 0 → t.at ≡ 0 → t.top ≡ 0 → t.high ≡ 0 → t.second ≡ 0 → IsTally blocks views has_none t
tally-new blocks views t some cs rs a at top high second =
    let reach : (v : ℕ) → v < views → reach_of t.reach.items v ≡ 0 = λ v l. ap (λ (xs : List ℕ). get_or xs v 0) rs ∙ get_or-replicate views v 0 0 l in
    let counted : (v : ℕ) → v < views → nth_count t.counts.views.items v ≡ no_count = λ v l. ap (λ (xs : List ViewCount). nth_count xs v) cs ∙ get_or-replicate views v no_count no_count l in
    record {
      many = ap (λ (xs : List ViewCount). length xs) cs ∙ length-replicate views no_count;
      low = omega (arith, at);
      top = record {
        reaches = ap (λ (xs : List ℕ). length xs) rs ∙ length-replicate views 0;
        top_low = omega (arith, top, some);
        high_is = reach t.top (omega (arith, top, some)) ∙ sym high;
        high_low = omega (arith, high);
        second_low = omega (arith, second, high);
        others = λ v l apart. let r = reach v l in omega (arith, r);
        another = λ b l. absurd (let q : ⊥ = omega (arith, l, second) in q);
      };
      ahead = λ v b l up lb. below-zero b ∙ ap (nat_lt b) (sym (reach v l));
      held = λ v l. ap (λ (c : ViewCount). c.held) (counted v l) ∙ sym (count-empty (has_none v) blocks (λ k low. refl));
      only = λ v l. ap (λ (c : ViewCount). c.only) (counted v l) ∙ sym (count-empty (is_alone has_none views v) t.at (λ k low. alone-none views v k));
      all = a ∙ sym (count-empty (is_any has_none views) blocks (λ k low. any-none views k));
    }

-- a number that was raised stands at no greatest number
within : (n old more before after blocks : ℕ) → n ≡ min (old + more) (2 ^ 64 - 1) → old ≡ before → after ≡ before + more → after ≤ blocks → blocks < 2 ^ 64 → n ≡ after
within n old more before after blocks n_is old_is after_is bound few = omega (arith, n_is, old_is, after_is, bound, few)

-- ---- what is settled
module _ (blocks views : ℕ) (has : ℕ → ℕ → Bool) (t : Tally) (h : IsTally blocks views has t) where
  -- no view reaches beyond the top
  reach-high : (v : ℕ) → v < views → reach_of t.reach.items v ≤ t.high
  reach-high v l =
      let high_is = h.top.high_is in
      let low = h.top.second_low in
      elim (test_or (v == t.top)) as (λ _. reach_of t.reach.items v ≤ t.high) [
        | inl y ↦ let e : reach_of t.reach.items v ≡ reach_of t.reach.items t.top = ap (reach_of t.reach.items) (equal-from v t.top y) in omega (arith, e, high_is)
        | inr n ↦ let o = h.top.others v l (unequal-from v t.top n) in omega (arith, o, low)
      ]

  has-from : (v b : ℕ) → v < views → t.at ≤ b → b < blocks → b < reach_of t.reach.items v → has v b ≡ true
  has-from v b l up lb r = h.ahead v b l up lb ∙ from-below b (reach_of t.reach.items v) r

  from-has : (v b : ℕ) → v < views → t.at ≤ b → b < blocks → has v b ≡ true → b < reach_of t.reach.items v
  from-has v b l up lb e = below-from b (reach_of t.reach.items v) (sym (h.ahead v b l up lb) ∙ e)

  top-has : (b : ℕ) → t.at ≤ b → b < blocks → b < t.high → has t.top b ≡ true
  top-has b up lb r = let e = h.top.high_is in has-from t.top b h.top.top_low up lb (omega (arith, e, r))

  alone-top : (b : ℕ) → t.at ≤ b → b < blocks → is_alone has views t.top b ≡ is_from t.second t.high b
  unfolding is_alone
  alone-top b up lb =
      let others : ℕ → Bool = other_has has t.top b in
      let any : Bool = list_any others (range_with_len 0 views) in
      one-test (has t.top b && not any) (is_from t.second t.high b)
      (λ e.
      let here = from-has t.top b h.top.top_low up lb (left-true (has t.top b) (not any) e) in
      let is = h.top.high_is in
      let none = not-true any (right-true (has t.top b) (not any) e) in
      let c : (t.second ≤ b) ⊎ (b < t.second) = grind arith in
      elim c as (λ _. is_from t.second t.high b ≡ true) [
        | inl l ↦ from-is t.second t.high b l (omega (arith, here, is))
        | inr l ↦
            let a = h.top.another b l in
            clash any (any-below others views a.0 a.1 (both-true (not (a.0 == t.top)) (has a.0 b) (false-not (a.0 == t.top) (never-true (a.0 == t.top) (λ y. a.2 (equal-from a.0 t.top y)))) (has-from a.0 b a.1 up lb a.3))) none
      ])
      (λ e.
      let low = from-low t.second t.high b e in
      both-true (has t.top b) (not any) (top-has b up lb (from-high t.second t.high b e))
      (false-not any (never-true any (λ y.
      let r = below-any others views y in
      let apart = unequal-from r.0 t.top (not-true (r.0 == t.top) (left-true (not (r.0 == t.top)) (has r.0 b) r.1.1)) in
      let far = from-has r.0 b r.1.0 up lb (right-true (not (r.0 == t.top)) (has r.0 b) r.1.1) in
      let o = h.top.others r.0 r.1.0 apart in
      let q : ⊥ = omega (arith, low, far, o) in
      q))))

  alone-other : (v b : ℕ) → v < views → (v ≡ t.top → ⊥) → t.at ≤ b → b < blocks → is_alone has views v b ≡ false
  unfolding is_alone
  alone-other v b l apart up lb =
      let others : ℕ → Bool = other_has has v b in
      let any : Bool = list_any others (range_with_len 0 views) in
      never-true (has v b && not any) (λ e.
      let far = from-has v b l up lb (left-true (has v b) (not any) e) in
      let high = reach-high v l in
      let there : any ≡ true = any-below others views t.top h.top.top_low
      (both-true (not (t.top == v)) (has t.top b) (false-not (t.top == v) (never-true (t.top == v) (λ y. apart (sym (equal-from t.top v y))))) (top-has b up lb (omega (arith, far, high)))) in
      denied any there (right-true (has v b) (not any) e))

  settled-top : (first : ℕ) → t.at ≤ first → first ≤ blocks → count_below (is_alone has views t.top) first ≡ count_below (is_alone has views t.top) t.at + (min t.high first - max t.at t.second)
  settled-top first up low =
      let all : t.at + (first - t.at) ≡ first = omega (arith, up) in
      sym (ap (count_below (is_alone has views t.top)) all)
      ∙ (count-ahead (is_alone has views t.top) t.second t.high t.at (first - t.at) (λ k a b. alone-top k a (omega (arith, b, all, low)))
      ∙ ap (λ (m : ℕ). count_below (is_alone has views t.top) t.at + (min t.high m - max t.at t.second)) all)

  settled-other : (v first : ℕ) → v < views → (v ≡ t.top → ⊥) → t.at ≤ first → first ≤ blocks → count_below (is_alone has views v) first ≡ count_below (is_alone has views v) t.at
  settled-other v first l apart up low =
      let all : t.at + (first - t.at) ≡ first = omega (arith, up) in
      let e = count-ahead (is_alone has views v) 0 0 t.at (first - t.at) (λ k a b. alone-other v k l apart a (omega (arith, b, all, low)) ∙ none-from k) in
      let none : (m a : ℕ) → min 0 m - max a 0 ≡ 0 = λ m a. omega arith in
      let more : (c d k : ℕ) → c ≡ d + k → k ≡ 0 → c ≡ d = λ c d k u w. omega (arith, u, w) in
      sym (ap (count_below (is_alone has views v)) all) ∙ more _ _ _ e (none (t.at + (first - t.at)) t.at)

  pub top-kept : (new : Tally) → new.reach ≡ t.reach → new.top ≡ t.top → new.high ≡ t.high → new.second ≡ t.second → IsTop blocks views new
  top-kept new reach top high second =
      let r : (v : ℕ) → reach_of new.reach.items v ≡ reach_of t.reach.items v = λ v. ap (λ (r : Vec ℕ Global). reach_of r.items v) reach in
      let h_is = h.top.high_is in
      let h_low = h.top.high_low in
      let s_low = h.top.second_low in
      let t_low = h.top.top_low in
      record {
        reaches = ap (λ (r : Vec ℕ Global). length r.items) reach ∙ h.top.reaches;
        top_low = omega (arith, top, t_low);
        high_is = ap (reach_of new.reach.items) top ∙ (r t.top ∙ (h_is ∙ sym high));
        high_low = omega (arith, high, h_low);
        second_low = omega (arith, second, high, s_low);
        others = λ v l apart. let o = h.top.others v l (λ s. apart (s ∙ sym top)) in let e = r v in omega (arith, o, e, second);
        another = λ b l.
            let a = h.top.another b (omega (arith, l, second)) in
            let e = r a.0 in
            let far : b < reach_of t.reach.items a.0 = a.3 in
            (a.0, a.1, (λ s. a.2 (s ∙ top)), omega (arith, e, far));
      }

  pub settle-tally : (new : Tally) (first n more : ℕ) → blocks < 2 ^ 64 → first ≤ blocks → t.at ≤ first → new.at ≡ first → new.reach ≡ t.reach → new.top ≡ t.top → new.high ≡ t.high → new.second ≡ t.second → new.counts.all ≡ t.counts.all →
      new.counts.views.items ≡ set t.counts.views.items t.top (record { held = (nth_count t.counts.views.items t.top).held; only = n }) → more ≡ min t.high first - max t.at t.second → n ≡ min ((nth_count t.counts.views.items t.top).only + more) (2 ^ 64 - 1) → IsTally blocks views has new
  settle-tally new first n more few low up at reach top high second all views_is more_is n_is =
      let old : List ViewCount = t.counts.views.items in
      let put : ViewCount = record { held = (nth_count old t.top).held; only = n } in
      let tl = h.top.top_low in
      let here : t.top < length old = omega (arith, tl, h.many) in
      let at_top : nth_count new.counts.views.items t.top ≡ put = ap (λ (xs : List ViewCount). nth_count xs t.top) views_is ∙ get_or-set_same old t.top put no_count here in
      let at_other : (v : ℕ) → (v ≡ t.top → ⊥) → nth_count new.counts.views.items v ≡ nth_count old v = λ v apart. ap (λ (xs : List ViewCount). nth_count xs v) views_is ∙ get_or-set_other old t.top v put no_count apart in
      let right : n ≡ count_below (is_alone has views t.top) first =
      let e : count_below (is_alone has views t.top) first ≡ count_below (is_alone has views t.top) t.at + more = settled-top first up low ∙ ap (λ m. count_below (is_alone has views t.top) t.at + m) (sym more_is) in
      within n (nth_count old t.top).only more (count_below (is_alone has views t.top) t.at) (count_below (is_alone has views t.top) first) blocks n_is (h.only t.top tl) e (let b = count-bound (is_alone has views t.top) first in omega (arith, b, low)) few in
      record {
        many = ap (λ (xs : List ViewCount). length xs) views_is ∙ (length-set old t.top put ∙ h.many);
        low = omega (arith, at, low);
        top = top-kept new reach top high second;
        ahead = λ v b l ub lb. h.ahead v b l (omega (arith, ub, at, up)) lb ∙ ap (λ (r : Vec ℕ Global). nat_lt b (reach_of r.items v)) (sym reach);
        held = λ v l. elim (test_or (v == t.top)) as (λ _. (nth_count new.counts.views.items v).held ≡ count_below (has v) blocks) [
          | inl y ↦
              let s = equal-from v t.top y in
              ap (λ (k : ℕ). (nth_count new.counts.views.items k).held) s ∙ (ap (λ (c : ViewCount). c.held) at_top ∙ (ap (λ (k : ℕ). (nth_count old k).held) (sym s) ∙ h.held v l))
          | inr m ↦ ap (λ (c : ViewCount). c.held) (at_other v (unequal-from v t.top m)) ∙ h.held v l
        ];
        only = λ v l. elim (test_or (v == t.top)) as (λ _. (nth_count new.counts.views.items v).only ≡ count_below (is_alone has views v) new.at) [
          | inl y ↦
              let s = equal-from v t.top y in
              ap (λ (k : ℕ). (nth_count new.counts.views.items k).only) s ∙ (ap (λ (c : ViewCount). c.only) at_top ∙ (right ∙ ap₂ (λ (k m : ℕ). count_below (is_alone has views k) m) (sym s) (sym at)))
          | inr m ↦
              let apart = unequal-from v t.top m in
              ap (λ (c : ViewCount). c.only) (at_other v apart) ∙ (h.only v l ∙ (sym (settled-other v first l apart up low) ∙ ap (count_below (is_alone has views v)) (sym at)))
        ];
        all = all ∙ h.all;
      }

  -- ---- what is added
  module _ (view first end : ℕ) (few : blocks < 2 ^ 64) (short : end ≤ blocks) (here : t.at ≡ first) (low : view < views) where
    abbrev also : ℕ → ℕ → Bool
    also = grown has view first end

    -- a view has what it had, and if it is the one the new blocks
    grown-from : (v b : ℕ) → also v b ≡ true → (has v b ≡ true) ⊎ ((v ≡ view) × (is_from first end b ≡ true))
    grown-from v b e = elim (either-from (has v b) ((v == view) && is_from first end b) e) as (λ _. (has v b ≡ true) ⊎ ((v ≡ view) × (is_from first end b ≡ true))) [
      | inl o ↦ inl o
      | inr n ↦ inr (equal-from v view (left-true (v == view) (is_from first end b) n), right-true (v == view) (is_from first end b) n)
    ]

    grown-old : (v b : ℕ) → has v b ≡ true → also v b ≡ true
    grown-old v b e = left-or (has v b) ((v == view) && is_from first end b) e

    grown-new : (v b : ℕ) → v ≡ view → is_from first end b ≡ true → also v b ≡ true
    grown-new v b s e = right-or (has v b) ((v == view) && is_from first end b) (both-true (v == view) (is_from first end b) (from-equal v view s) e)

    grown-other : (v b : ℕ) → (v ≡ view → ⊥) → has v b ≡ also v b
    grown-other v b apart = one-test (has v b) (also v b) (grown-old v b)
        (λ e. elim (grown-from v b e) as (λ _. has v b ≡ true) [ inl o ↦ o | inr n ↦ absurd (apart n.0) ])

    grown-below : (v b : ℕ) → b < first → has v b ≡ also v b
    grown-below v b l = one-test (has v b) (also v b) (grown-old v b)
        (λ e. elim (grown-from v b e) as (λ _. has v b ≡ true) [ inl o ↦ o | inr n ↦ absurd (let up = from-low first end b n.1 in let q : ⊥ = omega (arith, up, l) in q) ])

    abbrev reach : ℕ
    reach = reach_of t.reach.items view

    inner : min end blocks ≡ end
    inner = omega (arith, short)

    held-grown : count_below (also view) blocks ≡ count_below (has view) blocks + (end - max first reach)
    held-grown =
        let e = count-grown (has view) (also view) (max first reach) end blocks
        (λ k lk. one-test (also view k) (has view k || is_from (max first reach) end k)
        (λ y. elim (grown-from view k y) as (λ _. (has view k || is_from (max first reach) end k) ≡ true) [
          | inl o ↦ left-or (has view k) (is_from (max first reach) end k) o
          | inr n ↦
              let up = from-low first end k n.1 in
              let hi = from-high first end k n.1 in
              let c : (k < reach) ⊎ (reach ≤ k) = grind arith in
              elim c as (λ _. (has view k || is_from (max first reach) end k) ≡ true) [
                | inl r ↦ left-or (has view k) (is_from (max first reach) end k) (has-from view k low (omega (arith, up, here)) lk r)
                | inr r ↦ right-or (has view k) (is_from (max first reach) end k) (from-is (max first reach) end k (omega (arith, up, r)) hi)
              ]
        ])
        (λ y. elim (either-from (has view k) (is_from (max first reach) end k) y) as (λ _. also view k ≡ true) [
          | inl o ↦ grown-old view k o
          | inr n ↦
              let up = from-low (max first reach) end k n in
              grown-new view k refl (from-is first end k (omega (arith, up)) (from-high (max first reach) end k n))
        ]))
        (λ k lk y.
        let up = from-low (max first reach) end k y in
        never-true (has view k) (λ o. let far = from-has view k low (omega (arith, up, here)) lk o in let q : ⊥ = omega (arith, far, up) in q)) in
        e ∙ ap (λ m. count_below (has view) blocks + (m - max first reach)) inner

    any-grown : count_below (is_any also views) blocks ≡ count_below (is_any has views) blocks + (end - max first t.high)
    unfolding is_any
    any-grown =
        let new : ℕ → Bool = λ k. list_any (λ v. also v k) (range_with_len 0 views) in
        let old : ℕ → Bool = λ k. list_any (λ v. has v k) (range_with_len 0 views) in
        let e = count-grown old new (max first t.high) end blocks
        (λ k lk. one-test (new k) (old k || is_from (max first t.high) end k)
        (λ y.
        let r = below-any (λ v. also v k) views y in
        elim (grown-from r.0 k r.1.1) as (λ _. (old k || is_from (max first t.high) end k) ≡ true) [
          | inl o ↦ left-or (old k) (is_from (max first t.high) end k) (any-below (λ v. has v k) views r.0 r.1.0 o)
          | inr n ↦
              let up = from-low first end k n.1 in
              let hi = from-high first end k n.1 in
              let c : (k < t.high) ⊎ (t.high ≤ k) = grind arith in
              elim c as (λ _. (old k || is_from (max first t.high) end k) ≡ true) [
                | inl f ↦ left-or (old k) (is_from (max first t.high) end k) (any-below (λ v. has v k) views t.top h.top.top_low (top-has k (omega (arith, up, here)) lk f))
                | inr f ↦ right-or (old k) (is_from (max first t.high) end k) (from-is (max first t.high) end k (omega (arith, up, f)) hi)
              ]
        ])
        (λ y. elim (either-from (old k) (is_from (max first t.high) end k) y) as (λ _. new k ≡ true) [
          | inl o ↦ let r = below-any (λ v. has v k) views o in any-below (λ v. also v k) views r.0 r.1.0 (grown-old r.0 k r.1.1)
          | inr n ↦
              let up = from-low (max first t.high) end k n in
              any-below (λ v. also v k) views view low (grown-new view k refl (from-is first end k (omega (arith, up)) (from-high (max first t.high) end k n)))
        ]))
        (λ k lk y.
        let up = from-low (max first t.high) end k y in
        never-true (old k) (λ o.
        let r = below-any (λ v. has v k) views o in
        let far = from-has r.0 k r.1.0 (omega (arith, up, here)) lk r.1.1 in
        let high = reach-high r.0 r.1.0 in
        let q : ⊥ = omega (arith, far, up, high) in
        q)) in
        e ∙ ap (λ m. count_below old blocks + (m - max first t.high)) inner

    ahead-grown : (v b : ℕ) (far : ℕ) → v ≡ view → far ≡ max reach end → v < views → t.at ≤ b → b < blocks → also v b ≡ nat_lt b far
    ahead-grown v b far s f l up lb = one-test (also v b) (nat_lt b far)
        (λ e. elim (grown-from v b e) as (λ _. nat_lt b far ≡ true) [
          | inl o ↦
              let r = from-has v b l up lb o in
              let is : reach_of t.reach.items v ≡ reach = ap (reach_of t.reach.items) s in
              from-below b far (omega (arith, r, is, f))
          | inr n ↦ let hi = from-high first end b n.1 in from-below b far (omega (arith, hi, f))
        ])
        (λ e.
        let r = below-from b far e in
        let is : reach_of t.reach.items v ≡ reach = ap (reach_of t.reach.items) s in
        let c : (b < reach) ⊎ (reach ≤ b) = grind arith in
        elim c as (λ _. also v b ≡ true) [
          | inl k ↦ grown-old v b (has-from v b l up lb (omega (arith, k, is)))
          | inr k ↦ grown-new v b s (from-is first end b (omega (arith, up, here)) (omega (arith, r, f, k)))
        ])

    pub add-tally : (new : Tally) (n more further : ℕ) → new.at ≡ t.at → IsTop blocks views new → new.reach.items ≡ set t.reach.items view (max reach end) → new.counts.views.items ≡ set t.counts.views.items view (record { held = n; only = (nth_count t.counts.views.items view).only }) →
        more ≡ end - max first reach → n ≡ min ((nth_count t.counts.views.items view).held + more) (2 ^ 64 - 1) → further ≡ end - max first t.high → new.counts.all ≡ min (t.counts.all + further) (2 ^ 64 - 1) → IsTally blocks views also new
    add-tally new n more further at top reach_is views_is more_is n_is further_is all_is =
        let old : List ViewCount = t.counts.views.items in
        let put : ViewCount = record { held = n; only = (nth_count old view).only } in
        let placed : view < length old = omega (arith, low, h.many) in
        let reached : view < length t.reach.items = let r = h.top.reaches in omega (arith, low, r) in
        let at_view : nth_count new.counts.views.items view ≡ put = ap (λ (xs : List ViewCount). nth_count xs view) views_is ∙ get_or-set_same old view put no_count placed in
        let at_other : (v : ℕ) → (v ≡ view → ⊥) → nth_count new.counts.views.items v ≡ nth_count old v = λ v apart. ap (λ (xs : List ViewCount). nth_count xs v) views_is ∙ get_or-set_other old view v put no_count apart in
        let reach_view : reach_of new.reach.items view ≡ max reach end = ap (λ (xs : List ℕ). get_or xs view 0) reach_is ∙ get_or-set_same t.reach.items view (max reach end) 0 reached in
        let reach_other : (v : ℕ) → (v ≡ view → ⊥) → reach_of new.reach.items v ≡ reach_of t.reach.items v = λ v apart. ap (λ (xs : List ℕ). get_or xs v 0) reach_is ∙ get_or-set_other t.reach.items view v (max reach end) 0 apart in
        let right : n ≡ count_below (also view) blocks =
        let e = held-grown ∙ ap (λ m. count_below (has view) blocks + m) (sym more_is) in
        within n (nth_count old view).held more (count_below (has view) blocks) (count_below (also view) blocks) blocks n_is (h.held view low) e (count-bound (also view) blocks) few in
        let l_at = h.low in
        record {
          many = ap (λ (xs : List ViewCount). length xs) views_is ∙ (length-set old view put ∙ h.many);
          low = omega (arith, at, l_at);
          top = top;
          ahead = λ v b l up lb.
              let up_old : t.at ≤ b = omega (arith, up, at) in
              elim (test_or (v == view)) as (λ _. also v b ≡ nat_lt b (reach_of new.reach.items v)) [
                | inl y ↦ let s = equal-from v view y in ahead-grown v b (reach_of new.reach.items v) s (ap (reach_of new.reach.items) s ∙ reach_view) l up_old lb
                | inr m ↦ let apart = unequal-from v view m in sym (grown-other v b apart) ∙ (h.ahead v b l up_old lb ∙ ap (nat_lt b) (sym (reach_other v apart)))
              ];
          held = λ v l. elim (test_or (v == view)) as (λ _. (nth_count new.counts.views.items v).held ≡ count_below (also v) blocks) [
            | inl y ↦
                let s = equal-from v view y in
                ap (λ (k : ℕ). (nth_count new.counts.views.items k).held) s ∙ (ap (λ (c : ViewCount). c.held) at_view ∙ (right ∙ ap (λ (k : ℕ). count_below (also k) blocks) (sym s)))
            | inr m ↦
                let apart = unequal-from v view m in
                ap (λ (c : ViewCount). c.held) (at_other v apart) ∙ (h.held v l ∙ count-same (has v) (also v) blocks (λ k lk. grown-other v k apart))
          ];
          only = λ v l.
              let same : count_below (is_alone has views v) t.at ≡ count_below (is_alone also views v) new.at =
              count-same (is_alone has views v) (is_alone also views v) t.at (λ k lk. alone-same has also views v k l (λ w lw. grown-below w k (omega (arith, lk, here)))) ∙ ap (count_below (is_alone also views v)) (sym at) in
              elim (test_or (v == view)) as (λ _. (nth_count new.counts.views.items v).only ≡ count_below (is_alone also views v) new.at) [
                | inl y ↦
                    let s = equal-from v view y in
                    ap (λ (k : ℕ). (nth_count new.counts.views.items k).only) s ∙ (ap (λ (c : ViewCount). c.only) at_view ∙ (ap (λ (k : ℕ). (nth_count old k).only) (sym s) ∙ (h.only v l ∙ same)))
                | inr m ↦ ap (λ (c : ViewCount). c.only) (at_other v (unequal-from v view m)) ∙ (h.only v l ∙ same)
              ];
          all =
              let e = any-grown ∙ ap (λ m. count_below (is_any has views) blocks + m) (sym further_is) in
              within new.counts.all t.counts.all further (count_below (is_any has views) blocks) (count_below (is_any also views) blocks) blocks all_is h.all e (count-bound (is_any also views) blocks) few;
        }

-- ---- how far a view reaches
module _ (blocks views view end : ℕ) (t new : Tally) (h : IsTop blocks views t) (low : view < views) (short : end ≤ blocks) (reach_is : new.reach.items ≡ set t.reach.items view (max (reach_of t.reach.items view) end)) where
  raised-here : reach_of new.reach.items view ≡ max (reach_of t.reach.items view) end
  raised-here =
      let r = h.reaches in
      ap (λ (xs : List ℕ). get_or xs view 0) reach_is ∙ get_or-set_same t.reach.items view (max (reach_of t.reach.items view) end) 0 (omega (arith, r, low))

  raised-other : (v : ℕ) → (v ≡ view → ⊥) → reach_of new.reach.items v ≡ reach_of t.reach.items v
  raised-other v apart = ap (λ (xs : List ℕ). get_or xs v 0) reach_is ∙ get_or-set_other t.reach.items view v (max (reach_of t.reach.items view) end) 0 apart

  raised-many : length new.reach.items ≡ views
  raised-many = ap (λ (xs : List ℕ). length xs) reach_is ∙ (length-set t.reach.items view (max (reach_of t.reach.items view) end) ∙ h.reaches)

  no-less : (v : ℕ) → reach_of t.reach.items v ≤ reach_of new.reach.items v
  no-less v = elim (test_or (v == view)) as (λ _. reach_of t.reach.items v ≤ reach_of new.reach.items v) [
    | inl y ↦
        let s = equal-from v view y in
        let a : reach_of t.reach.items v ≡ reach_of t.reach.items view = ap (reach_of t.reach.items) s in
        let b : reach_of new.reach.items v ≡ reach_of new.reach.items view = ap (reach_of new.reach.items) s in
        let c = raised-here in
        omega (arith, a, b, c)
    | inr n ↦ let e = raised-other v (unequal-from v view n) in omega (arith, e)
  ]

  -- beneath the top
  pub top-beneath : (view ≡ t.top → ⊥) → end ≤ t.high → new.top ≡ t.top → new.high ≡ t.high → new.second ≡ max t.second end → IsTop blocks views new
  top-beneath apart under top high second =
      let top_low = h.top_low in
      let high_low = h.high_low in
      let second_low = h.second_low in
      record {
        reaches = raised-many;
        top_low = omega (arith, top, top_low);
        high_is = ap (reach_of new.reach.items) top ∙ (raised-other t.top (λ s. apart (sym s)) ∙ (h.high_is ∙ sym high));
        high_low = omega (arith, high, high_low);
        second_low = omega (arith, high, second, second_low, under);
        others = λ v l other. elim (test_or (v == view)) as (λ _. reach_of new.reach.items v ≤ new.second) [
          | inl y ↦
              let b : reach_of new.reach.items v ≡ reach_of new.reach.items view = ap (reach_of new.reach.items) (equal-from v view y) in
              let c = raised-here in
              let o = h.others view low apart in
              omega (arith, b, c, o, second)
          | inr n ↦
              let e = raised-other v (unequal-from v view n) in
              let o = h.others v l (λ s. other (s ∙ sym top)) in
              omega (arith, e, o, second)
        ];
        another = λ b l.
            let c : (b < t.second) ⊎ (t.second ≤ b) = grind arith in
            elim c as (λ _. (v : ℕ) × (v < views) × (v ≡ new.top → ⊥) × (b < reach_of new.reach.items v)) [
              | inl k ↦
                  let a = h.another b k in
                  let far : b < reach_of t.reach.items a.0 = a.3 in
                  let up = no-less a.0 in
                  (a.0, a.1, (λ s. a.2 (s ∙ top)), omega (arith, far, up))
              | inr k ↦ let e = raised-here in (view, low, (λ s. apart (s ∙ top)), omega (arith, e, k, l, second))
            ];
      }
