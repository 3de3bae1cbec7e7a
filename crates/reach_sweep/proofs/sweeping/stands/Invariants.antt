use Rattle.std.proofs.Common.{◌≡◌, drop}
use Rattle.apfs_model.specs.Lists.{has}
use Rattle.reach_sweep.specs.Views.{slots_of}
use Rattle.reach_sweep.proofs.sweeping.stands.Given as goal

abbrev pub invariant-loop-volume : goal.invariant-loop-volume
invariant-loop-volume l = has (slots_of l.volumes) l.slot ≡ has (slots_of (drop l.volume-index l.volumes)) l.slot
