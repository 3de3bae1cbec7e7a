use Rattle.std.proofs.Common.{◌≡◌, ◌++◌, take}
use Rattle.reach_sweep.specs.Views.{past_heads}
use Rattle.reach_sweep.proofs.sweeping.add_pasts.Given as goal

abbrev pub invariant-loop-k : goal.invariant-loop-k
invariant-loop-k l = l.out.items ≡ l.fn.out.items ++ past_heads l.i l.volume 0 (take l.k l.volume.snaps)
