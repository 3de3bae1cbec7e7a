use Rattle.std.proofs.Common.{◌≡◌, ◌++◌, length, map, reverse}
use Rattle.path_search.specs.declared.order.Numbered.{Numbered}
use Rattle.view_tree.specs.Parts.{row_at}
use Rattle.view_tree.proofs.under.put_on.Given as goal

abbrev pub invariant-put : goal.invariant-put
invariant-put l = map (row_at l.shared) (map (λ (t : Numbered). t.target) l.targets.items) ++ reverse l.left.items ≡ map (row_at l.shared) (map (λ (t : Numbered). t.target) l.fn.targets.items) ++ reverse l.fn.left.items

abbrev pub decreases-put : goal.decreases-put
decreases-put l = length l.targets.items
