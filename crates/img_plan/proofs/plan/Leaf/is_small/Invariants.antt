use Rattle.std.proofs.Common.{◌≡◌, ◌+◌, sum_by, take, vec_len}
use Rattle.img_plan.specs.Nodes.{bytes_in_node}
use Rattle.img_plan.proofs.plan.Leaf.is_small.Given as goal

abbrev pub invariant-items : goal.invariant-items
invariant-items l = l.room + sum_by (λ item. bytes_in_node (vec_len item.0) (vec_len item.1)) (take l.item-index l.self.items.items) ≡ 4000
