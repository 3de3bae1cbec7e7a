use Rattle.std.proofs.Common.{◌≡◌, ◌++◌, take}
use Rattle.reach_rules.specs.Owners.{told_from}
use Rattle.reach_gather.specs.Held.{some_owners}
use Rattle.reach_gather.proofs.keeping.add_told.Given as goal

abbrev pub invariant-loop-i : goal.invariant-loop-i
invariant-loop-i l = l.out.items ≡ l.fn.out.items ++ some_owners (told_from l.naming 0 (take l.i l.ranges))
