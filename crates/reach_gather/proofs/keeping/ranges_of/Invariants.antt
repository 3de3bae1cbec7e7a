use Rattle.std.proofs.Common.{◌≡◌, take}
use Rattle.std.specs.Prelude.{flat_map}
use Rattle.reach_gather.proofs.Kepts.{ranges_in}
use Rattle.reach_gather.proofs.keeping.ranges_of.Given as goal

abbrev pub invariant-loop-one : goal.invariant-loop-one
invariant-loop-one l = l.out.items ≡ flat_map ranges_in (take l.one-index l.kept)
