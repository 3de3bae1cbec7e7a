use Rattle.std.proofs.Common.{◌≡◌, ℕ, length, inl, inr, Option, IfSome, refl, sym, subst, arith}
use Rattle.std.specs.Prelude.{IsNone}
use Rattle.std.proofs.lemmas.Bool.{cases_lt}
use Rattle.view_sweep.specs.Asked.{nth_asked, AreClashing, AreAlikeAt}
use Rattle.view_sweep.proofs.Onces.{nth-numbered}
use Rattle.view_sweep.proofs.once.found_clash.Goals as goal

pub clash_of-requires-clause-other : goal.clash_of-requires-clause-other
clash_of-requires-clause-other c = nth-numbered (length c.args.sets.now) c.args.asked.now c.loop-place.place c.requires.numbers (omega (arith, c.requires.last, c.loop-place-test.true))

pub clash_of-requires-clause-one : goal.clash_of-requires-clause-one
clash_of-requires-clause-one c = nth-numbered (length c.args.sets.now) c.args.asked.now c.args.last c.requires.numbers c.requires.last

pub returns-in-Some-clause-some : goal.returns-in-Some-clause-some
returns-in-Some-clause-some c = record {
  other = c.loop-place.place;
  low = omega arith;
  high = c.loop-place-test.true;
  is = subst (λ (o : Option ℕ). IfSome o (AreClashing c.args.views.now c.args.sets.now (nth_asked c.args.asked.now c.loop-place.place) (nth_asked c.args.asked.now c.args.last))) c.in-Some.is c.clash_of.ensures.some;
}

pub loop-place-preserved : goal.loop-place-preserved
loop-place-preserved c = λ j low high. elim (cases_lt j c.loop-place.place) as (λ _. AreAlikeAt c.args.views.now c.args.sets.now c.args.asked.now j c.args.last) [
  | inl before ↦ c.loop-place.invariant j low before
  | inr past ↦
      let same : c.loop-place.place ≡ j = omega arith in
      subst (λ (n : ℕ). AreAlikeAt c.args.views.now c.args.sets.now c.args.asked.now n c.args.last) same (c.clash_of.ensures.none (subst (λ (o : Option ℕ). IsNone o) (sym c.in-None.is) refl))
]
