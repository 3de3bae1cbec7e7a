use Rattle.std.proofs.Common.{◌≡◌, ◌++◌}
use Rattle.view_sweep.specs.Found.{kids_from}
use Rattle.view_sweep.proofs.Kids.{children_to}
use Rattle.view_sweep.proofs.nodes.add_kids.Given as goal

abbrev pub invariant-loop-entry : goal.invariant-loop-entry
invariant-loop-entry g l = l.out.items ≡ l.fn.out.items ++ kids_from l.hit.wanted.view l.hit.mapping l.level 0 (children_to g.K.TreeKey.shape l.node l.entry)
