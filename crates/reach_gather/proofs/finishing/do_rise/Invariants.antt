use Rattle.std.proofs.Common.{ℕ, ◌+◌, ◌<◌, map, get_or}
use Rattle.reach_gather.specs.Finished.{first_of}
use Rattle.reach_gather.proofs.finishing.do_rise.Given as goal

abbrev pub invariant-loop-i : goal.invariant-loop-i
invariant-loop-i l = (k : ℕ) → k + 1 < l.i → get_or (map first_of l.ranges) k 0 < get_or (map first_of l.ranges) (k + 1) 0
