use Rattle.std.proofs.Common.{◌≡◌, ◌-◌, get_or, ap, sym, ◌∙◌, arith}
use Rattle.std.proofs.lemmas.Bool.{ltb-true}
use Rattle.std.proofs.lemmas.List.{get_or_default}
use Rattle.id_lists.proofs.InOrder.{point-here, position-is}
use Rattle.id_lists.proofs.search.is_first.Goals as goal

pub returns-else-at-eq0 : goal.returns-else-at-eq0
returns-else-at-eq0 g c =
    λ yes.
    let id = g.B.OrderBy.id in
    let list = c.args.list.now in
    let at = c.args.at in
    let here : id (get_or list at c.index-list-at.result) ≡ c.args.id = sym (c.id.ensures ∙ ap id c.index-list-at.is) ∙ c.if-id.false in
    let point =
    point-here id list c.args.id at c.requires (omega arith)
    (λ d low. let same = ap id (get_or_default list at d c.index-list-at.result low) in omega (arith, same, here))
    (λ d above.
    let same : id (get_or list (at - 1) d) ≡ c.id-else-at-eq0.result = ap id (get_or_default list (at - 1) d c.index-list-at-else-at-eq0.result (omega arith) ∙ sym c.index-list-at-else-at-eq0.is) ∙ sym c.id-else-at-eq0.ensures in
    let less = ltb-true c.id-else-at-eq0.result c.args.id yes in
    omega arith) in
    position-is id list c.args.id at c.index-list-at.result (omega arith) point here
