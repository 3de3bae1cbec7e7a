use Rattle.std.proofs.Common.{◌≡◌, ◌-◌, ap, sym, ◌∙◌, refl, arith, get_or}
use Rattle.std.proofs.lemmas.List.{get_or_default}
use Rattle.std.proofs.lemmas.List.Sorted.{IsNonDecreasingBy-from_all_adjacent}
use Rattle.id_lists.proofs.search.are_in_order.Goals as goal

pub returns-then-id : goal.returns-then-id
returns-then-id g c =
    let id = g.B.OrderBy.id in
    let list = c.args.list.now in
    let d = c.index-list-i.result in
    let here : id (get_or list c.loop-i.i d) ≡ c.id.result = ap id (sym c.index-list-i.is) ∙ sym c.id.ensures in
    let before : id (get_or list (c.loop-i.i - 1) d) ≡ c.id-in-loop-i.result = ap id (get_or_default list (c.loop-i.i - 1) d c.index-list-i-in-loop-i.result (omega arith) ∙ sym c.index-list-i-in-loop-i.is) ∙ sym c.id-in-loop-i.ensures in
    ((λ e. absurd (cc)), (λ order. absurd (omega (arith, here, before, order (c.loop-i.i - 1) c.loop-i.i d (omega arith) (omega arith), c.if-id.true))))

pub returns : goal.returns
returns g c = ((λ e. IsNonDecreasingBy-from_all_adjacent g.B.OrderBy.id c.args.list.now (λ k d low. c.loop-i.invariant.1 k d (omega arith))), (λ order. refl))
