use Rattle.std.proofs.Common.{◌<◌, ◌-◌, length, take, drop, ap, sym, ◌∙◌, subst, arith}
use Rattle.std.proofs.lemmas.List.{length-drop}
use Rattle.rule_index.specs.Order.{IsChain}
use Rattle.view_change.proofs.Rings.{drop-chain, next-left, next-taken}
use Rattle.view_change.proofs.ring.Ring.pop.Goals as goal

pub invariant_of-self-2 : goal.invariant_of-self-2
invariant_of-self-2 g c =
    let items = c.self.inside.items.items in
    let left = c.self.inside.left in
    let some : 0 < left = omega (arith, c.if-self-eq0.false) in
    let rest = c.pop_front.ensures.rest in
    let fewer = length-drop 1 items in
    let long = ap length rest in (
      omega (arith, fewer, long, c.self.invariant.0),
      λ on. (
        subst (IsChain g.B.Follows.follows) (sym (ap (take (left - 1)) rest ∙ next-left items left some)) (drop-chain g.B.Follows.follows 1 (take left items) (c.self.invariant.1 on).0),
        subst (IsChain g.B.Follows.follows) (sym (ap (drop (left - 1)) rest ∙ next-taken items left some)) (c.self.invariant.1 on).1,
      ),
    )

pub returns-clause-taken : goal.returns-clause-taken
returns-clause-taken g c =
    let items = c.self.inside.items.items in
    let left = c.self.inside.left in
    let some : 0 < left = omega (arith, c.if-self-eq0.false) in
    ap (drop (left - 1)) c.pop_front.ensures.rest ∙ (next-taken items left some ∙ ap (λ v. v.1) c.self.view_is)
