use Rattle.std.proofs.Common.{◌≡◌, ℕ, ◌+◌, ◌<◌, length, inl, inr, refl, ap, sym, ◌∙◌, arith}
use Rattle.std.proofs.lemmas.Bool.{cases_lt}
use Rattle.view_sweep.specs.Sets.{view_of}
use Rattle.view_sweep.proofs.Losts.{nobody}
use Rattle.view_sweep.proofs.Ranked.{in-place}
use Rattle.view_sweep.proofs.sets.place_of.Goals as goal

pub loop-place-preserved : goal.loop-place-preserved
loop-place-preserved c =
    let apart : view_of c.args.views.now c.loop-place.place ≡ c.args.view.now → ⊥ = c.loop-place-test.ensures.other refl in
    let other : (q : ℕ) → q < c.loop-place.place + 1 → view_of c.args.views.now q ≡ c.args.view.now → ⊥ = λ q low e. elim (cases_lt q c.loop-place.place) as (λ _. ⊥) [
      | inl before ↦ c.loop-place.invariant.other q before e
      | inr past ↦ let same : c.loop-place.place ≡ q = omega arith in apart (ap (view_of c.args.views.now) same ∙ e)
    ] in
    let t = in-place c.args.views.now c.args.view.now nobody.view c.requires in
    let low : t.0 < length c.args.views.now = t.1.0 in
    record {
      inside = elim (cases_lt t.0 (c.loop-place.place + 1)) as (λ _. c.loop-place.place + 1 < length c.args.views.now) [
        | inl before ↦ absurd (other t.0 before (sym t.1.1))
        | inr past ↦ omega arith
      ];
      other = other;
    }
