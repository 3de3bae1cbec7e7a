-- How many numbers of a range are below a bound.
use Rattle.std.proofs.Common.{arith, ◌≡◌, ℕ, zero, suc, ◌+◌, ◌-◌, ◌<◌, ◌≤◌, Bool, true, false, not, nat_lt, cond, ◌∷◌, length, refl, ap, ◌∙◌}
use Rattle.std.proofs.lemmas.Grind.{common_steps}
use Rattle.std.specs.Prelude.{filter}
use Rattle.std.specs.List.{range_with_len}
use Rattle.apfs_model.proofs.BoolTests.{below-from}

-- a test that is another on each number of a range keeps as many
pub as-many : (p q : ℕ → Bool) (first n : ℕ) → ((i : ℕ) → first ≤ i → i < first + n → p i ≡ q i) → length (filter p (range_with_len first n)) ≡ length (filter q (range_with_len first n))
as-many p q first zero same = refl
as-many p q first (suc n) same =
    let rest = as-many p q (first + 1) n (λ i a b. same i (omega arith) (omega arith)) in
    let here : p first ≡ q first = same first (omega arith) (omega arith) in
    ap (λ b. length (cond b (first ∷ filter p (range_with_len (first + 1) n)) (filter p (range_with_len (first + 1) n)))) here ∙ step (q first) rest
  where
    step : (b : Bool) → length (filter p (range_with_len (first + 1) n)) ≡ length (filter q (range_with_len (first + 1) n)) →
        length (cond b (first ∷ filter p (range_with_len (first + 1) n)) (filter p (range_with_len (first + 1) n))) ≡ length (cond b (first ∷ filter q (range_with_len (first + 1) n)) (filter q (range_with_len (first + 1) n)))
    step true e = ap (λ k. suc k) e
    step false e = e

-- of a range those from the bound on
pub from-bound : (bound first n : ℕ) → length (filter (λ i. not (nat_lt i bound)) (range_with_len first n)) ≡ n - (bound - first)
from-bound bound first zero = omega arith
from-bound bound first (suc n) = step (nat_lt first bound) refl (from-bound bound (first + 1) n)
  where
    step : (b : Bool) → nat_lt first bound ≡ b → length (filter (λ i. not (nat_lt i bound)) (range_with_len (first + 1) n)) ≡ n - (bound - (first + 1)) →
        length (cond (not b) (first ∷ filter (λ i. not (nat_lt i bound)) (range_with_len (first + 1) n)) (filter (λ i. not (nat_lt i bound)) (range_with_len (first + 1) n))) ≡ suc n - (bound - first)
    step true e rest = rest ∙ omega (arith, below-from first bound e)
    step false e rest = ap (λ k. suc k) rest ∙ Prim.grind (arith, common_steps, e)
