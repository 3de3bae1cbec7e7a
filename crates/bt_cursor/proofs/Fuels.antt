-- A walk goes on only so far.
use Rattle.std.proofs.Common.{◌≡◌, ℕ, zero, suc, ◌+◌, ◌-◌, ◌*◌, ◌<◌, ◌≤◌, nat_lt, Bool, true, false, List, [], ◌∷◌, ◌++◌, refl, ap, sym, ◌∙◌, subst, arith}
use Rattle.std.proofs.lemmas.Bool.Decides.{nat_tests}
use Rattle.bt_node.specs.Node.{level_of, count_of}
use Rattle.bt_cursor.specs.Fuel.{weight, fuel_at, fuel_above, fuel_way, fuel_if, pending}
use Rattle.bt_cursor.specs.declared.way.Step.{Step}
use Rattle.bt_cursor.specs.declared.way.Way.{Way}

pub weight-some : (level : ℕ) → 1 ≤ weight level
weight-some zero = omega arith
weight-some (suc level) = omega (arith, weight-some level)

pub fuel_push : (steps : List Step) (step : Step) → fuel_above (steps ++ step ∷ []) ≡ fuel_above steps + fuel_at step.block.items step.next
fuel_push [] step = omega arith
fuel_push (s ∷ steps) step = omega (arith, fuel_push steps step)

times-suc : (n w : ℕ) → suc n * w ≡ w + n * w
times-suc n w = grind arith

pub fuel-pass : (node : List ℕ) (i j : ℕ) → i < count_of node → j ≡ i + 1 → fuel_at node i ≡ weight (level_of node) + fuel_at node j
fuel-pass node i j low next =
    let more : count_of node - i ≡ suc (count_of node - j) = omega arith in
    ap (λ n. n * weight (level_of node)) more ∙ times-suc (count_of node - j) (weight (level_of node))

pub fuel-end : (node : List ℕ) (i : ℕ) → count_of node ≤ i → fuel_at node i ≡ 0
fuel-end node i past = let none : count_of node - i ≡ 0 = omega arith in ap (λ n. n * weight (level_of node)) none ∙ (let e : 0 * weight (level_of node) ≡ 0 = omega arith in e)

times-few : (n w : ℕ) → n ≤ 65536 → n * w ≤ 65536 * w
times-few n w few = grind arith

pub fuel-child : (below : List ℕ) (i level : ℕ) → count_of below ≤ 65536 → level_of below ≡ level → fuel_at below i ≤ 65536 * weight level
fuel-child below i level few same =
    let e = ap weight same in
    subst (λ w. (count_of below - i) * w ≤ 65536 * weight level) (sym e) (times-few (count_of below - i) (weight level) (omega arith))

pub weight-high : (node : List ℕ) → 0 < level_of node → weight (level_of node) ≡ 65537 * weight (level_of node - 1)
weight-high node high = let up : level_of node ≡ suc (level_of node - 1) = omega arith in ap weight up

-- one level up, where nothing is left
pub fuel-up : (above lower_above : List Step) (last lower : Step) → lower_above ≡ above ++ last ∷ [] → count_of lower.block.items ≤ lower.next →
    fuel_at last.block.items last.next + fuel_above above ≡ fuel_at lower.block.items lower.next + fuel_above lower_above
fuel-up above lower_above last lower taken past =
    let none = fuel-end lower.block.items lower.next past in
    let e = ap fuel_above taken in
    omega (arith, none, e, fuel_push above last)

-- what is below an entry is less than the entry
pending-less : (node : List ℕ) (deep : Bool) → deep ≡ nat_lt 0 (level_of node) → pending deep node < weight (level_of node)
pending-less node true upper =
    let high : 0 < level_of node = grind (arith, nat_tests) in
    omega (arith, weight-high node high, weight-some (level_of node - 1))
pending-less node false upper = weight-some (level_of node)

-- a walk that passed an entry of a node to which it went down and up
pub fuel-passed : (old mid way : Way) (deep now : Bool) → fuel_way mid ≤ fuel_if deep old → fuel_way way ≤ fuel_way mid → way.last.next < count_of way.last.block.items → now ≡ nat_lt 0 (level_of way.last.block.items) →
    pending now way.last.block.items + (fuel_at way.last.block.items (way.last.next + 1) + fuel_above way.above.items) < fuel_if deep old
fuel-passed old mid way deep now down up low upper = omega (arith, fuel-pass way.last.block.items way.last.next (way.last.next + 1) low refl, pending-less way.last.block.items now upper, down, up)
