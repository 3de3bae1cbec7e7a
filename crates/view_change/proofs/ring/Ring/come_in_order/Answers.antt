use Rattle.std.proofs.Common.{sym, subst}
use Rattle.std.proofs.lemmas.Option.{get_or_from_slice_get}
use Rattle.rule_index.specs.Order.{IsChain}
use Rattle.view_change.proofs.Rings.{join-some}
use Rattle.view_change.proofs.ring.Ring.come_in_order.Goals as goal

pub returns-clause-taken : goal.returns-clause-taken
returns-clause-taken g c t =
    let follows = g.B.Follows.follows in
    let chains = c.self.invariant.1 c.if-not-self.false in
    let next = c.in-Some.next.now in
    join-some follows c.args.self.now.1 c.args.items.now next (sym (get_or_from_slice_get c.args.items.now 0 next next (sym c.in-Some.ensures.value))) (c.may_come.ensures t) (subst (λ v. IsChain follows v.1) c.self.view_is chains.1) (c.is_chain.ensures c.if-not-is_chain.false)
