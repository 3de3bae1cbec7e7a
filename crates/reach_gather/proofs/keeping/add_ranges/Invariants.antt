use Rattle.std.proofs.Common.{◌≡◌, ◌++◌, take}
use Rattle.reach_gather.specs.Kept.{some_ranges}
use Rattle.reach_gather.proofs.keeping.add_ranges.Given as goal

abbrev pub invariant-loop-range : goal.invariant-loop-range
invariant-loop-range l = l.out.items ≡ l.fn.out.items ++ some_ranges (take l.range-index l.ranges)
