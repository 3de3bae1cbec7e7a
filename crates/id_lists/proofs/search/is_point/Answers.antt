use Rattle.std.proofs.Common.{◌≡◌, ◌<◌, ◌≤◌, ◌-◌, length, get_or, ap, sym, ◌∙◌, arith}
use Rattle.std.proofs.lemmas.Bool.{ltb-true}
use Rattle.std.proofs.lemmas.List.{get_or_default}
use Rattle.id_lists.proofs.InOrder.{point-here}
use Rattle.id_lists.proofs.search.is_point.Goals as goal
use Rattle.id_lists.proofs.search.is_point.Goals.{else-at-list-2-via-then-at-list-2+else-id, else-at-list-2-via-else-at-list-2}

pub returns-else-at-eq0-clause-split : goal.returns-else-at-eq0-clause-split
returns-else-at-eq0-clause-split g c =
    λ yes.
    let id = g.B.OrderBy.id in
    let list = c.args.list.now in
    point-here id list c.args.id c.args.at c.requires (omega arith)
    (elim c.else-at-list-2.branch as (λ _. (d : g.row.T.Denot) → c.args.at < length list → c.args.id ≤ id (get_or list c.args.at d)) [
      | else-at-list-2-via-then-at-list-2+else-id w ↦ λ d low.
          let same : id (get_or list c.args.at d) ≡ w.id.result = ap id (get_or_default list c.args.at d w.index-list-at.result low ∙ sym w.index-list-at.is) ∙ sym w.id.ensures in
          omega (arith, w.if-id.false)
      | else-at-list-2-via-else-at-list-2 w ↦ λ d low. absurd (omega (arith, w.if-at-list-2.false))
    ])
    (λ d above.
    let same : id (get_or list (c.args.at - 1) d) ≡ c.id-else-at-eq0.result = ap id (get_or_default list (c.args.at - 1) d c.index-list-at-else-at-eq0.result (omega arith) ∙ sym c.index-list-at-else-at-eq0.is) ∙ sym c.id-else-at-eq0.ensures in
    let less = ltb-true c.id-else-at-eq0.result c.args.id yes in
    omega arith)
