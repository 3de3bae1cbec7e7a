use Rattle.std.proofs.Common.{◌≡◌, ◌+◌, ◌-◌, ◌^◌, ◌<◌, List, length, min, refl, ap, ap₂, ◌∙◌, arith}
use Rattle.std.proofs.lemmas.List.{length-set}
use Rattle.piece_count.specs.Covered.{nth_count}
use Rattle.piece_count.specs.declared.tally.ViewCount.{ViewCount}
use Rattle.piece_count.proofs.Numbers.{one-got}
use Rattle.piece_count.proofs.Splits.{summed, later, counts-sum}
use Rattle.piece_count.proofs.lone.add_counts.Goals as goal

pub views-init : goal.views-init
views-init c = record {
  many = refl;
  all = refl;
  held = λ v low. absurd (omega arith);
  only = λ v low. absurd (omega arith);
  same = λ v up. refl;
}

pub views-preserved : goal.views-preserved
views-preserved c =
    let old : List ViewCount = c.args.counts.now.views.items in
    let more : List ViewCount = c.args.more.now.views.items in
    let views : List ViewCount = c.views.counts.views.items in
    let i = c.views.view in
    let had = c.views.invariant in
    let many = had.many in
    let low : i < length views = omega (arith, many, c.views-test.true) in
    let one : c.index.result.now ≡ nth_count old i = c.index.ensures ∙ (one-got views i c.index.result.now (record { held = 0; only = 0 }) low ∙ had.same i (omega arith)) in
    let other : c.index-in-views.result.now ≡ nth_count more i = c.index-in-views.ensures ∙ one-got more i c.index-in-views.result.now (record { held = 0; only = 0 }) (omega (arith, c.views-test.true)) in
    record {
      many = length-set views i c.added.result ∙ had.many;
      all = had.all;
      held = summed (λ (n : ViewCount). n.held) old more views i c.added.result low (c.added.ensures.held ∙ ap₂ (λ (n m : ViewCount). min (n.held + m.held) (2 ^ 64 - 1)) one other) had.held;
      only = summed (λ (n : ViewCount). n.only) old more views i c.added.result low (c.added.ensures.only ∙ ap₂ (λ (n m : ViewCount). min (n.only + m.only) (2 ^ 64 - 1)) one other) had.only;
      same = λ v up. later views i v c.added.result up ∙ had.same v (omega (arith, up));
    }

pub returns : goal.returns
returns c = λ views a b small x y.
    let had = c.views.invariant in
    counts-sum views c.views.view a b c.args.counts.now c.args.more.now _ (omega (arith, c.views-test.false)) had.many (c.saturating_add-counts.ensures ∙ ap (λ n. min (n + c.args.more.now.all) (2 ^ 64 - 1)) had.all) had.held had.only small x y
