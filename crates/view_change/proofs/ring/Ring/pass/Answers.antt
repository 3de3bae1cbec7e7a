use Rattle.std.proofs.Common.{◌≡◌, [], ◌∷◌, ◌++◌, take, ap, sym, ◌∙◌, append_assoc, arith}
use Rattle.view_change.proofs.Rings.{next-drop, next-take, none-drop, none-take}
use Rattle.view_change.proofs.ring.Ring.pass.Goals as goal

pub returns-in_default-clause-left : goal.returns-in_default-clause-left
returns-in_default-clause-left g c =
    let gone = sym c.items.invariant.left ∙ c.in_default.ensures.none in
    sym c.in_default.ensures.first ∙ (c.in_default.ensures.none ∙ sym (none-drop c.args.self.now.0 c.items.counter c.args.number gone (omega (arith, c.items-test.true))))

pub returns-in_default-clause-moved : goal.returns-in_default-clause-moved
returns-in_default-clause-moved g c =
    let gone = sym c.items.invariant.left ∙ c.in_default.ensures.none in
    c.items.invariant.moved ∙ ap (λ ys. c.args.to.now.items ++ ys) (none-take c.args.self.now.0 c.items.counter c.args.number gone (omega (arith, c.items-test.true)))

pub items-preserved : goal.items-preserved
items-preserved g c =
    let item = c.in-Some.item in
    let all = c.args.self.now.0 in
    let first : c.items.self.0 ≡ item ∷ c.pop.new.self.0 = c.in-Some.ensures.first in
    let at = c.items.invariant.left in
    record {
      left = next-drop all c.items.self.0 c.pop.new.self.0 c.items.counter item at first;
      taken = c.in-Some.ensures.taken ∙ c.items.invariant.taken;
      moved = c.in_ok-push.ensures.items ∙ (ap (λ ys. ys ++ item ∷ []) c.items.invariant.moved ∙ (append_assoc c.args.to.now.items (take c.items.counter all) (item ∷ []) ∙ ap (λ ys. c.args.to.now.items ++ ys) (sym (next-take all c.pop.new.self.0 c.items.counter item (sym at ∙ first)))));
    }
