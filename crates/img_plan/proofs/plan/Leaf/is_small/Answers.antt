use Rattle.std.proofs.Common.{◌≡◌, ◌<◌, ℕ, length, get_or, sum_by, vec_len, ap, ◌∙◌, arith}
use Rattle.std.proofs.lemmas.Bool.{false≢true}
use Rattle.std.proofs.lemmas.List.Sums.{sum_by_more_le}
use Rattle.img_plan.specs.Nodes.{bytes_in_node}
use Rattle.img_plan.specs.Packing.{Pair}
use Rattle.img_plan.proofs.plan.Leaf.is_small.Goals as goal

-- the bytes that an item takes
size : Pair → ℕ
size item = bytes_in_node (vec_len item.0) (vec_len item.1)

pub returns-then-bytes-room : goal.returns-then-bytes-room
unfolding size
returns-then-bytes-room c =
    let xs = c.args.self.now.items.items in
    let item = c.item-item.result in
    let here : size item ≡ size (get_or xs c.items.item-index item) = ap size (c.item-item.is ∙ ap (λ l. get_or l c.items.item-index item) c.deref-item-items.ensures.value) in
    let inside : c.items.item-index < length xs = omega (arith, c.items-test.true, ap (λ l. length l) c.deref-item-items.ensures.value) in
    let more : 4000 < sum_by size xs = omega (arith, here, sum_by_more_le size xs c.items.item-index item inside, c.items.invariant, c.node_bytes-bytes.ensures, c.if-bytes-room.true) in
    (λ h. absurd (false≢true h), λ small. grind (arith, more, small))
