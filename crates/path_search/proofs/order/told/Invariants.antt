use Rattle.std.proofs.Common.{◌≡◌, take}
use Rattle.path_search.proofs.order.told.Given as goal

abbrev pub invariant-kept : goal.invariant-kept
invariant-kept l = l.targets.items ≡ take l.target-index l.kept
