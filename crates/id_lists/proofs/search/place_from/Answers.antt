use Rattle.std.proofs.Common.{ap, sym, ◌∙◌, arith}
use Rattle.id_lists.proofs.InOrder.{position-is, position-none, position-past}
use Rattle.id_lists.proofs.search.place_from.Goals as goal

pub returns-then-at-list : goal.returns-then-at-list
returns-then-at-list g c = sym (position-past g.B.OrderBy.id c.args.list.now c.args.id c.below-at.result c.if-at-list.true c.requires c.below-at.ensures.split)

pub returns-then-id : goal.returns-then-id
returns-then-id g c =
    let same = c.id.ensures ∙ ap g.B.OrderBy.id c.index-list-at.is in
    sym (position-none g.B.OrderBy.id c.args.list.now c.args.id c.below-at.result c.index-list-at.result c.below-at.ensures.bound c.requires c.below-at.ensures.split (λ less e. c.if-id.true (same ∙ e)))

pub returns : goal.returns
returns g c =
    let same = c.id.ensures ∙ ap g.B.OrderBy.id c.index-list-at.is in
    sym (position-is g.B.OrderBy.id c.args.list.now c.args.id c.below-at.result c.index-list-at.result (omega arith) c.below-at.ensures.split (sym same ∙ c.if-id.false))
