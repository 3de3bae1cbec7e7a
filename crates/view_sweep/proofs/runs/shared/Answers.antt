use Rattle.std.proofs.Common.{◌≡◌, ◌+◌, false, [], take, get_or, arith}
use Rattle.std.proofs.lemmas.List.{take_more}
use Rattle.apfs_model.proofs.BoolTests.{clash}
use Rattle.view_sweep.specs.Runs.{has_place}
use Rattle.view_sweep.proofs.Rises.{nowhere, has-none, place-at, apart-more}
use Rattle.view_sweep.proofs.runs.shared.Goals.{in-Some+else-place-other, in-None}
use Rattle.view_sweep.proofs.runs.shared.Goals as goal

pub loop-other-init : goal.loop-other-init
loop-other-init c = λ p a b. clash (has_place [] p) b (has-none p)

pub returns-then-place-other-clause-some : goal.returns-then-place-other-clause-some
returns-then-place-other-clause-some c = record {
  one = c.in-Some.ensures.is_in;
  other = place-at c.args.others.now c.loop-other.other-index c.in-Some.place c.loop-other-test.true c.in-Some.ensures.above c.if-place-other.true;
}

pub loop-other-preserved : goal.loop-other-preserved
loop-other-preserved c =
    let i = c.loop-other.other-index in
    let x = get_or c.args.others.now i nowhere in
    apart-more c.args.runs.now (take i c.args.others.now) (take (i + 1) c.args.others.now) x (take_more c.args.others.now i nowhere c.loop-other-test.true) c.loop-other.invariant
    (λ p low high. elim c.match-least_place.branch as (λ _. has_place c.args.runs.now p ≡ false) [
      | in-Some+else-place-other w ↦ w.in-Some.ensures.least p low (omega (arith, high, w.if-place-other.false))
      | in-None w ↦ w.in-None.ensures (p + 1) p low (omega arith)
    ])
