use Rattle.std.proofs.Common.{◌≡◌, take}
use Rattle.std.specs.Prelude.{flat_map}
use Rattle.reach_gather.specs.Kept.{owners_in}
use Rattle.reach_gather.proofs.keeping.owners_of.Given as goal

abbrev pub invariant-loop-one : goal.invariant-loop-one
invariant-loop-one l = l.out.items ≡ flat_map owners_in (take l.one-index l.kept)
