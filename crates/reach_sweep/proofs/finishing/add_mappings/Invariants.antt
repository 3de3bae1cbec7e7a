use Rattle.std.proofs.Common.{◌≡◌, ◌++◌, take}
use Rattle.reach_sweep.specs.Composed.{records_used}
use Rattle.reach_sweep.proofs.finishing.add_mappings.Given as goal

abbrev pub invariant-loop-one : goal.invariant-loop-one
invariant-loop-one l = l.out.items ≡ l.fn.out.items ++ records_used (take l.one-index l.used)
