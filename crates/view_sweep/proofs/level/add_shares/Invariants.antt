use Rattle.std.proofs.Common.{◌≡◌, ◌++◌, map, take}
use Rattle.view_sweep.specs.Shared.{share_of}
use Rattle.view_sweep.proofs.level.add_shares.Given as goal

abbrev pub invariant-loop-hit : goal.invariant-loop-hit
invariant-loop-hit l = l.out.items ≡ l.fn.out.items ++ map share_of (take l.hit-index l.hits)
