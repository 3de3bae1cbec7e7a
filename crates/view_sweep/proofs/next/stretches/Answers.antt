use Rattle.std.proofs.Common.{◌≡◌, ◌≤◌, length, ℕ, subst, arith}
use Rattle.std.proofs.lemmas.Bool.Decides.{nat_tests}
use Rattle.view_sweep.specs.Next.{AreSoFar}
use Rattle.view_sweep.proofs.Stretches.{none-far, no-stretches}
use Rattle.view_sweep.proofs.next.stretches.Goals as goal

pub loop-place-init : goal.loop-place-init
loop-place-init c =
    let none = c.is_empty.ensures in
    let other = c.if-is_empty.false in
    record { far = none-far c.args.views.now c.new-runs.result.items c.new-runs.ensures.items; inside = grind (arith, nat_tests) }

pub end_last-requires : goal.end_last-requires
end_last-requires c =
    let inside : c.loop-place.place ≤ length c.args.views.now = c.loop-place.invariant.inside in
    let all : c.loop-place.place ≡ length c.args.views.now = omega (arith, inside, c.loop-place-test.false) in
    subst (λ (n : ℕ). AreSoFar c.args.views.now c.loop-place.runs.items c.loop-place.from n) all c.loop-place.invariant.far

pub returns-then-is_empty-clause-all : goal.returns-then-is_empty-clause-all
returns-then-is_empty-clause-all c = no-stretches c.args.views.now c.new-runs.result.items c.new-runs.ensures.items
