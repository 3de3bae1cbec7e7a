use Rattle.std.proofs.Common.{◌≡◌, ◌≤◌, ◌++◌, length, take, drop, ap, sym, ◌∙◌, subst, arith, length-append}
use Rattle.std.proofs.lemmas.List.{take-append-le, drop-append-le}
use Rattle.rule_index.specs.Order.{IsChain}
use Rattle.view_change.proofs.ring.Ring.put.Goals as goal

pub invariant_of-self-2 : goal.invariant_of-self-2
invariant_of-self-2 g c =
    let ring = c.self.inside.items.items in
    let left = c.self.inside.left in
    let inside : left ≤ length ring = c.self.invariant.0 in
    let more = c.args.items.items in
    let now : c.append.new.self.items ≡ ring ++ more = c.in_ok-append.ensures.items ∙ ap (λ ys. ring ++ ys) c.from_vec-items.ensures.items in
    let long = length-append ring more in
    let all = ap length now in (
      omega (arith, inside, long, all),
      λ on. (
        subst (IsChain g.B.Follows.follows) (sym (ap (take left) now ∙ (take-append-le left ring more inside ∙ ap (λ v. v.0) c.self.view_is))) (c.come_in_order-in_order.ensures.left on),
        subst (IsChain g.B.Follows.follows) (sym (ap (drop left) now ∙ (drop-append-le left ring more inside ∙ (λ i. (ap (λ v. v.1) c.self.view_is) i ++ sym c.deref.ensures.value i)))) (c.come_in_order-in_order.ensures.taken on),
      ),
    )
