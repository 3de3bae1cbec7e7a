use Rattle.std.proofs.Common.{◌≡◌, ◌∙◌, ◌++◌, [], ◌∷◌, false, map, refl, ap, sym, subst, append_assoc}
use Rattle.std.proofs.lemmas.Bool.{or_from}
use Rattle.std.proofs.lemmas.List.Folds.{list_any-append}
use Rattle.view_rules.specs.Facts.{Facts}
use Rattle.view_change.specs.Shared.{is_same_leaf, is_among}
use Rattle.view_change.specs.Kept.{leaf_of}
use Rattle.view_change.specs.Numbers.{behind}
use Rattle.view_change.specs.Changing.{facts_before, held_after, IsUnderway}
use Rattle.view_change.proofs.Underway.{passes-over}
use Rattle.view_change.proofs.changing.Changing.pass_until.Goals as goal

pub gone-preserved : goal.gone-preserved
gone-preserved g c = record {
  held = λ start site image leaves had.
      let shape = g.K.TreeKey.shape in
      let now = c.gone.self in
      subst (λ (f : Facts). IsUnderway shape site image (facts_before start) leaves c.pop_front.new.self.items c.pass.new.self.0 (record { leaves = now.after.leaves; facts = behind f now.after.facts; records = now.after.records }) now.follows f c.pass.new.to now.gone now.come) (sym c.in_ok-pass.ensures.taken)
      (passes-over shape site image (facts_before start) leaves c.in-Some.kept c.pop_front.new.self.items now.stock.0 c.pass.new.self.0 (held_after now) now.follows now.stock.1 now.passed c.pass.new.to now.gone now.come
      c.in_ok-pass.ensures.left c.in_ok-pass.ensures.moved
      (subst (λ ks. IsUnderway shape site image (facts_before start) leaves ks now.stock.0 (held_after now) now.follows now.stock.1 now.passed now.gone now.come) c.in-Some.ensures.items (c.gone.invariant.held start site image leaves had)));
  others = λ leaf sought.
      let had = c.gone.invariant.others leaf sought in
      let kept = c.in-Some.kept.leaf in
      let apart : is_same_leaf leaf kept ≡ false = let same = rw sought at c.eq.ensures in sym same ∙ c.if-eq.false in (
        had.0 ++ kept ∷ [],
        had.1 ∙ (ap (λ ks. had.0 ++ map leaf_of ks) c.in-Some.ensures.items ∙ sym (append_assoc had.0 (kept ∷ []) (map leaf_of c.pop_front.new.self.items))),
        list_any-append (is_same_leaf leaf) had.0 (kept ∷ []) ∙ or_from (is_among had.0 leaf) (is_among (kept ∷ []) leaf) had.2 (or_from (is_same_leaf leaf kept) false apart refl),
      );
}

pub returns-then-eq-clause-held : goal.returns-then-eq-clause-held
returns-then-eq-clause-held g c start site image leaves had =
    let now = c.gone.self in
    subst (λ ks. IsUnderway g.K.TreeKey.shape site image (facts_before start) leaves ks now.stock.0 (held_after now) now.follows now.stock.1 now.passed now.gone now.come) c.in-Some.ensures.items (c.gone.invariant.held start site image leaves had)

pub returns-clause-held : goal.returns-clause-held
returns-clause-held g c start site image leaves had =
    let now = c.gone.self in
    subst (λ ks. IsUnderway g.K.TreeKey.shape site image (facts_before start) leaves ks now.stock.0 (held_after now) now.follows now.stock.1 now.passed now.gone now.come) c.in_default.ensures.items (c.gone.invariant.held start site image leaves had)
