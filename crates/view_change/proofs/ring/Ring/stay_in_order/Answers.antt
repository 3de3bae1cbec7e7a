use Rattle.std.proofs.Common.{◌≡◌, take, get_or, subst}
use Rattle.rule_index.specs.Order.{IsChain}
use Rattle.view_change.proofs.Rings.{take-chain, join-some, front-is}
use Rattle.view_change.proofs.ring.Ring.stay_in_order.Goals as goal

pub returns-clause-taken : goal.returns-clause-taken
returns-clause-taken g c t =
    let follows = g.B.Follows.follows in
    let n = c.args.number in
    let next = c.in-Some.next.now in
    let chains = c.self.invariant.1 c.if-not-self.false in
    join-some follows c.args.self.now.1 (take n c.args.self.now.0) next
    (subst (λ v. next ≡ get_or (take n v.0) 0 next) c.self.view_is (front-is n c.self.inside.left c.self.inside.items.items next c.in-Some.ensures.lookup)) (c.may_come.ensures t)
    (subst (λ v. IsChain follows v.1) c.self.view_is chains.1) (take-chain follows n c.args.self.now.0 c.requires (subst (λ v. IsChain follows v.0) c.self.view_is chains.0))
