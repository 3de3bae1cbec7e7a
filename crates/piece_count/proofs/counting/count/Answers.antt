use Rattle.std.proofs.Common.{ℕ, ◌^◌, ◌<◌, Bool, List, sym, subst, arith}
use Rattle.std.specs.List.Sorted.{IsPermutation}
use Rattle.piece_count.specs.Lone.{owed, AreCounts, IsSplit}
use Rattle.piece_count.specs.declared.piece.Views.{Views}
use Rattle.piece_count.proofs.Splits.{all-counted}
use Rattle.piece_count.proofs.counting.count.Goals as goal

pub returns : goal.returns
returns c =
    let views = c.args.views in
    let blocks = c.args.blocks in
    let few : blocks < 2 ^ 64 = omega arith in
    let sets : List Views = c.args.held.sets.items in
    let split : IsSplit blocks views sets c.deref-2.result.now c.in_ok-all.all = subst (λ (ss : List Views). IsSplit blocks views ss c.deref-2.result.now c.in_ok-all.all) c.deref.ensures.value c.in_ok-all.ensures in
    let lone : AreCounts views (λ (test : (ℕ → Bool) → Bool). owed test sets c.deref-4.result.now) c.in_ok-lone.lone = subst (λ (ss : List Views). AreCounts views (λ (test : (ℕ → Bool) → Bool). owed test ss c.deref-4.result.now) c.in_ok-lone.lone) c.deref-3.ensures.value c.in_ok-lone.ensures in
    let same : AreCounts views (λ (test : (ℕ → Bool) → Bool). owed test sets c.in_ok-all.all.lone.items) c.in_ok-lone.lone = subst (λ (ns : List ℕ). AreCounts views (λ (test : (ℕ → Bool) → Bool). owed test sets ns) c.in_ok-lone.lone) c.deref-4.ensures.value lone in
    all-counted blocks views c.args.held c.deref-2.result.now c.in_ok-all.all c.in_ok-lone.lone c.add_counts.new.counts few (subst (IsPermutation c.args.held.pieces.items) (sym c.deref-2.ensures.value) c.by_first.ensures.order) split same (λ a b small x y. c.add_counts.ensures views a b small x y)
