use Rattle.std.proofs.Common.{◌≡◌, ◌+◌, ◌-◌, ◌<◌, ◌≤◌, map, length, get_or, inl, inr, ap, arith}
use Rattle.std.proofs.lemmas.Bool.{cases_lt}
use Rattle.reach_gather.specs.Finished.{first_of}
use Rattle.reach_gather.proofs.Rising.{firsts-length, first-at}
use Rattle.reach_gather.proofs.finishing.do_rise.Goals as goal

pub loop-i-preserved : goal.loop-i-preserved
loop-i-preserved c = λ k low.
    let rs = c.args.ranges.now in
    let i = c.loop-i.i in
    let from : 1 ≤ i = c.loop-i.auto.i in
    let end : i < length rs = c.loop-i-test.true in
    elim (cases_lt (k + 1) i) as (λ _. get_or (map first_of rs) k 0 < get_or (map first_of rs) (k + 1) 0) [
      | inl far ↦ c.loop-i.invariant k far
      | inr near ↦
          let next : k + 1 ≡ i = omega arith in
          let here : k ≡ i - 1 = omega arith in
          let a = first-at rs (i - 1) (omega arith) in
          let b = first-at rs i end in
          let p = ap (λ j. get_or (map first_of rs) j 0) here in
          let q = ap (λ j. get_or (map first_of rs) j 0) next in
          omega (arith, a, b, p, q, c.if-ranges-i.false)
    ]

pub returns-then-ranges-i : goal.returns-then-ranges-i
returns-then-ranges-i c =
    let rs = c.args.ranges.now in
    let i = c.loop-i.i in
    let from : 1 ≤ i = c.loop-i.auto.i in
    let end : i < length rs = c.loop-i-test.true in (
      (λ e. absurd (cc)),
      (λ rise.
          let next : i - 1 + 1 ≡ i = omega arith in
          let r = rise (i - 1) (omega (arith, firsts-length rs)) in
          let q = ap (λ j. get_or (map first_of rs) j 0) next in
          absurd (omega (arith, first-at rs (i - 1) (omega arith), first-at rs i end, r, q, c.if-ranges-i.true))),
    )
