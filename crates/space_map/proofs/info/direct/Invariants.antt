use Rattle.std.proofs.Common.{◌≡◌, map}
use Rattle.std.specs.List.{range_with_len}
use Rattle.space_map.specs.Blocks.{address_at}
use Rattle.space_map.proofs.info.direct.Given as goal

abbrev pub invariant-cibs : goal.invariant-cibs
invariant-cibs l = l.cibs.items ≡ map (address_at l.manager) (range_with_len 0 l.index)
