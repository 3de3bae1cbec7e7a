use Rattle.std.proofs.Common.{◌≡◌, [], subst, sym, ◌∙◌, arith}
use Rattle.std.proofs.lemmas.Iterator.Adapters.{YieldsList-from_vec}
use Rattle.std.proofs.lemmas.Iterator.Consumers.{YieldsList-end}
use Rattle.std.proofs.lemmas.Bool.Decides.{nat_tests}
use Rattle.std.proofs.lemmas.List.{map-id, nil_from_length}
use Rattle.img_plan.specs.declared.packing.Packing.{Packing}
use Rattle.img_plan.specs.Packing.{IsPacked, IsPacking}
use Rattle.img_plan.proofs.PackingSteps.{closed, none_packed}
use Rattle.img_plan.proofs.packing.pack.Goals as goal
use Rattle.img_plan.proofs.packing.pack.Goals.{then-not-is_empty+in_ok-close, else-not-is_empty}

pub returns : goal.returns
returns c =
    let items = c.args.items.items in
    let given = c.into_iter-item-iterator.ensures.into_iter_gives in
    let all = YieldsList-end (YieldsList-from_vec {s = c.into_iter-item-iterator.result} items given.0 (given.1 ∙ c.args.items.ok.0)) c.items.yielded c.items.item-iterator c.items.yielded_by _ c.next.new.self c.in-None.is c.next.ensures.steps in
    let same : c.items.yielded ≡ items = sym (map-id c.items.yielded) ∙ all.0 in
    let was : IsPacking items c.items.packing = subst (λ l. IsPacking l c.items.packing) same c.items.invariant.packing in
    elim c.if-not-is_empty.branch [
      | then-not-is_empty+in_ok-close w ↦
          let packed : IsPacked c.args.first items w.close.new.self.leaves.items = subst (λ f. IsPacked f items w.close.new.self.leaves.items) c.items.invariant.first (closed c.items.packing w.close.new.self items was w.in_ok-close.ensures) in
          subst (λ (p : Packing). IsPacked c.args.first items p.leaves.items) (sym w.packing-is) packed
      | else-not-is_empty w ↦
          let none : c.items.packing.last.items ≡ [] = nil_from_length c.items.packing.last.items (grind (arith, nat_tests)) in
          let packed : IsPacked c.args.first items c.items.packing.leaves.items = subst (λ f. IsPacked f items c.items.packing.leaves.items) c.items.invariant.first (none_packed c.items.packing items was none) in
          subst (λ (p : Packing). IsPacked c.args.first items p.leaves.items) (sym w.packing-is) packed
    ]
