use Rattle.std.proofs.Common.{◌≡◌, ◌++◌, map, take}
use Rattle.view_sweep.specs.Sets.{asked_with}
use Rattle.view_sweep.proofs.reading.ask.Given as goal

abbrev pub invariant-loop-wanted : goal.invariant-loop-wanted
invariant-loop-wanted l = l.out.items ≡ l.fn.out.items ++ map (asked_with l.set) (take l.wanted-index l.wants)
