use Rattle.std.proofs.Common.{◌≤◌, ◌-◌, ◌++◌, length, take, drop, ap, sym, ◌∙◌, subst, arith, length-append}
use Rattle.std.proofs.lemmas.List.{length-drop, length-take-le}
use Rattle.rule_index.specs.Order.{IsChain}
use Rattle.view_change.proofs.Rings.{turned-left, turned-taken, drop-few}
use Rattle.view_change.proofs.ring.Ring.keep.Goals as goal

pub invariant_of-self : goal.invariant_of-self
invariant_of-self g c =
    let items = c.self.inside.items.items in
    let left = c.self.inside.left in
    let n = c.min-number.result in
    let few : n ≤ left = omega (arith, c.min-number.ensures) in
    let inside : left ≤ length items = c.self.invariant.0 in
    let long = length-append (drop n items) (take n items) in
    let rest = length-drop n items in
    let first = length-take-le n items (omega (arith, few, inside)) in
    let turned = c.rotate_left.ensures.items in
    let all = ap length turned in (
      omega (arith, few, inside, long, rest, first, all),
      λ on. (
        subst (IsChain g.B.Follows.follows) (sym (ap (take (left - n)) turned ∙ turned-left items left n few inside ∙ ap (λ v. drop n v.0) c.self.view_is)) (c.stay_in_order-in_order.ensures.left on),
        subst (IsChain g.B.Follows.follows) (sym (ap (drop (left - n)) turned ∙ turned-taken items left n few inside ∙ ap (λ v. v.1 ++ take n v.0) c.self.view_is)) (c.stay_in_order-in_order.ensures.taken on),
      ),
    )

pub returns-clause-left : goal.returns-clause-left
returns-clause-left g c =
    let items = c.self.inside.items.items in
    let left = c.self.inside.left in
    let n = c.min-number.result in
    let few : n ≤ left = omega (arith, c.min-number.ensures) in
    let inside : left ≤ length items = c.self.invariant.0 in
    let long = length-take-le left items inside in
    ap (take (left - n)) c.rotate_left.ensures.items ∙ (turned-left items left n few inside ∙ drop-few n c.args.number (take left items) (omega (arith, c.min-number.ensures, long)) ∙ ap (λ v. drop c.args.number v.0) c.self.view_is)
