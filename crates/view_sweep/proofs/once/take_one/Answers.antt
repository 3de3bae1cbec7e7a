use Rattle.std.proofs.Common.{rules, ◌≡◌, ◌||◌, ℕ, List, Option, IfSome, length, refl, ap, sym, ◌∙◌, subst}
use Rattle.std.specs.Prelude.{IsNone}
use Rattle.view_sweep.specs.declared.runs.Run.{Run}
use Rattle.view_sweep.specs.Runs.{has_place, AreRising}
use Rattle.view_sweep.specs.Asked.{nth_asked, IsClashAt}
use Rattle.view_sweep.proofs.Onces.{nth-numbered, set-rising, run-again, run-next, twice-here}
use Rattle.view_sweep.proofs.once.take_one.Goals as goal

pub runs_of-set-requires : goal.runs_of-set-requires
runs_of-set-requires c = nth-numbered (length c.args.sets.now) c.args.asked.now c.args.i c.requires.numbers c.requires.inside

pub returns-then-one-asked-clause-run : goal.returns-then-one-asked-clause-run
returns-then-one-asked-clause-run c =
    let rises : AreRising c.runs_of-set.result.now = set-rising c.args.views.now c.args.sets.now c.args.asked.now c.args.i c.runs_of-set.result.now c.requires.sets c.requires.numbers c.requires.inside c.runs_of-set.ensures in
    run-next c.args.views.now c.args.sets.now c.args.asked.now c.args.seen.now.items c.in_ok-renewed.renewed.items c.args.from c.args.i c.requires.run c.requires.sorted c.requires.inside c.if-one-asked.true (subst AreRising (sym c.in_ok-renewed.ensures) rises) (c.in_ok-renewed.ensures ∙ c.runs_of-set.ensures)

pub returns-in-Some-clause-stops : goal.returns-in-Some-clause-stops
returns-in-Some-clause-stops c =
    let here : (nth_asked c.args.asked.now c.args.i).wanted.oid ≡ (nth_asked c.args.asked.now c.args.from).wanted.oid = search rules in
    twice-here c.args.views.now c.args.sets.now c.args.asked.now c.args.seen.now.items c.args.from c.args.i c.in-Some.place c.requires.run c.requires.inside here
    (subst (λ (o : Option ℕ). IfSome o (IsClashAt c.args.views.now c.args.sets.now c.args.asked.now c.args.from c.args.i)) c.in-Some.is c.clash.ensures.some)

pub add-requires : goal.add-requires
add-requires c = record {
  runs = c.requires.run.rising;
  more = set-rising c.args.views.now c.args.sets.now c.args.asked.now c.args.i c.runs_of-set.result.now c.requires.sets c.requires.numbers c.requires.inside c.runs_of-set.ensures;
}

pub returns-clause-run : goal.returns-clause-run
returns-clause-run c =
    let here : (nth_asked c.args.asked.now c.args.i).wanted.oid ≡ (nth_asked c.args.asked.now c.args.from).wanted.oid = search rules in
    run-again c.args.views.now c.args.sets.now c.args.asked.now c.args.seen.now.items c.add.new.runs.items c.args.from c.args.i c.requires.run here
    (c.clash.ensures.none (subst (λ (o : Option ℕ). IsNone o) (sym c.in-None.is) refl)) c.in_ok-add.ensures.rising
    (λ p. c.in_ok-add.ensures.places p ∙ ap (λ (bs : List Run). has_place c.args.seen.now.items p || has_place bs p) c.runs_of-set.ensures)
