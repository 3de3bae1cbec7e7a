use Rattle.std.proofs.Common.{◌≡◌, ◌++◌, map}
use Rattle.std.specs.List.{range_with_len}
use Rattle.space_map.specs.Blocks.{cab_address_at}
use Rattle.space_map.proofs.info.add_addresses.Given as goal

abbrev pub invariant-addresses : goal.invariant-addresses
invariant-addresses l = l.cibs.items ≡ l.fn.cibs.items ++ map (cab_address_at l.cab) (range_with_len 0 l.j)
