use Rattle.std.proofs.Common.{◌≡◌, take}
use Rattle.path_search.specs.Parts.{targets_with}
use Rattle.path_search.proofs.order.kept_of.Given as goal

abbrev pub invariant-loop-number : goal.invariant-loop-number
invariant-loop-number l = l.kept.items ≡ targets_with (take l.number l.entries) (take l.number l.kinds)
