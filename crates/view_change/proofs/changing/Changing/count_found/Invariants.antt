-- As many leaves are found as both views have, but for those that are still to come.
use Rattle.view_change.specs.Changing.{leaves_left}
use Rattle.view_change.proofs.Lookups.{Counts}
use Rattle.view_change.proofs.changing.Changing.count_found.Given as goal

abbrev pub invariant-leaves : goal.invariant-leaves
invariant-leaves l = Counts (leaves_left l.self) l.leaves l.from l.leaf-index l.found
