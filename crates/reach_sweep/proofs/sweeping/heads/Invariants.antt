use Rattle.std.proofs.Common.{◌≡◌, take}
use Rattle.reach_sweep.specs.Views.{swept_heads}
use Rattle.reach_sweep.proofs.sweeping.heads.Given as goal

abbrev pub invariant-loop-i : goal.invariant-loop-i
invariant-loop-i l = l.heads.items ≡ swept_heads l.cp (take l.i l.volumes)
