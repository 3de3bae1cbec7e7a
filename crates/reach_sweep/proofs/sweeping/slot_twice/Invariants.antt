use Rattle.std.proofs.Common.{◌≡◌, drop}
use Rattle.apfs_model.specs.Lists.{is_distinct}
use Rattle.reach_sweep.specs.Views.{slots_of}
use Rattle.reach_sweep.proofs.sweeping.slot_twice.Given as goal

abbrev pub invariant-loop-i : goal.invariant-loop-i
invariant-loop-i l = is_distinct (slots_of l.volumes) ≡ is_distinct (slots_of (drop l.i l.volumes))
