-- How far the blocks of ranges go on, and what it says of a range.
use Rattle.std.specs.Prelude.{◌≡◌, ℕ, ◌+◌, ◌≤◌, ◌<◌, ◌&&◌, ◌||◌, nat_le, nat_lt, Bool, true, false, List, [], length, refl, if◌then◌else◌}
use Rattle.std.proofs.Common.{arith, ap, sym, subst, ◌∙◌, get_or, take}
use Rattle.std.proofs.lemmas.List.Folds.{list_any_at, list_any_more}
use Rattle.apfs_model.proofs.BoolTests.{upto-from, below-from, from-upto, from-below, left-true, right-true, both-true}
use Rattle.ext_ref.specs.Cover.{is_owned, is_covered, range_has}
use Rattle.ext_ref.specs.Reach.{further, Reaches}
use Rattle.ext_ref.specs.declared.range.NewRange.{NewRange}
use Rattle.ext_ref.proofs.Covers.{all-each, not-all}

pub reaches-start : (ranges : List NewRange) (block : ℕ) → Reaches ranges [] block block
unfolding is_owned
reaches-start ranges block = record { onward = omega arith; owned = λ k low high. absurd (omega arith); stuck = λ e. refl }

owned-at : (ranges : List NewRange) (i k : ℕ) (d : NewRange) → i < length ranges → range_has k (get_or ranges i d) ≡ true → is_owned ranges k ≡ true
unfolding is_owned
owned-at ranges i k d low e = list_any_at (range_has k) ranges i d low e

owned-more : (ranges : List NewRange) (i k : ℕ) (d : NewRange) → i < length ranges → is_owned (take i ranges) k ≡ false → range_has k (get_or ranges i d) ≡ false → is_owned (take (i + 1) ranges) k ≡ false
unfolding is_owned
owned-more ranges i k d low e f = list_any_more (range_has k) ranges i d low ∙ (ap (λ (b : Bool). b || range_has k (get_or ranges i d)) e ∙ f)

-- one more range whose end is further on
reaches-on : (ranges : List NewRange) (i : ℕ) (d : NewRange) (block far : ℕ) → i < length ranges → Reaches ranges (take i ranges) block far → (get_or ranges i d).first ≤ block → far < (get_or ranges i d).first + (get_or ranges i d).length
    → Reaches ranges (take (i + 1) ranges) block ((get_or ranges i d).first + (get_or ranges i d).length)
reaches-on ranges i d block far low had begins ends =
    let onward : block ≤ far = had.onward in
    record {
      onward = omega arith;
      owned = λ k from to. owned-at ranges i k d low (both-true _ _ (from-upto (get_or ranges i d).first k (omega arith)) (from-below k ((get_or ranges i d).first + (get_or ranges i d).length) to));
      stuck = λ e. absurd (omega arith);
    }

-- and one whose end isn't, or that begins after the block
reaches-same : (ranges : List NewRange) (i : ℕ) (d : NewRange) (block far : ℕ) → i < length ranges → Reaches ranges (take i ranges) block far
    → (nat_le (get_or ranges i d).first block && nat_lt far ((get_or ranges i d).first + (get_or ranges i d).length)) ≡ false → Reaches ranges (take (i + 1) ranges) block far
reaches-same ranges i d block far low had e = record {
  onward = had.onward;
  owned = had.owned;
  stuck = λ same. owned-more ranges i block d low (had.stuck same)
      (ap (λ (n : ℕ). nat_le (get_or ranges i d).first block && nat_lt n ((get_or ranges i d).first + (get_or ranges i d).length)) (sym same) ∙ e);
}

reaches-if : (ranges : List NewRange) (i : ℕ) (d : NewRange) (block far : ℕ) (test : Bool) → i < length ranges → Reaches ranges (take i ranges) block far
    → (nat_le (get_or ranges i d).first block && nat_lt far ((get_or ranges i d).first + (get_or ranges i d).length)) ≡ test
    → Reaches ranges (take (i + 1) ranges) block (if test then (get_or ranges i d).first + (get_or ranges i d).length else far)
reaches-if ranges i d block far true low had e = reaches-on ranges i d block far low had (upto-from (get_or ranges i d).first block (left-true _ _ e)) (below-from far ((get_or ranges i d).first + (get_or ranges i d).length) (right-true _ _ e))
reaches-if ranges i d block far false low had e = reaches-same ranges i d block far low had e

pub reaches-more : (ranges : List NewRange) (i : ℕ) (d : NewRange) (block far new : ℕ) → i < length ranges → Reaches ranges (take i ranges) block far → new ≡ further block far (get_or ranges i d) → Reaches ranges (take (i + 1) ranges) block new
reaches-more ranges i d block far new low had e = subst (λ (n : ℕ). Reaches ranges (take (i + 1) ranges) block n) (sym e) (reaches-if ranges i d block far _ low had refl)

-- a range with a block that lies in none isn't covered, and one is of which all do
pub covered-stuck : (ranges : List NewRange) (first n block : ℕ) → first ≤ block → block < first + n → is_owned ranges block ≡ false → is_covered ranges first n ≡ false
unfolding is_covered
covered-stuck ranges first n block low high e = not-all (is_owned ranges) first n block low high e

pub covered-all : (ranges : List NewRange) (first n block : ℕ) → first + n ≤ block → ((k : ℕ) → first ≤ k → k < block → is_owned ranges k ≡ true) → is_covered ranges first n ≡ true
unfolding is_covered
covered-all ranges first n block high each = all-each (is_owned ranges) first n (λ k from to. each k from (omega arith))
