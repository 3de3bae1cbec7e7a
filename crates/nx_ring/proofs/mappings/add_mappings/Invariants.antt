use Rattle.std.proofs.Common.{◌≡◌, ◌++◌, map}
use Rattle.std.specs.List.{range_with_len}
use Rattle.nx_ring.specs.Mappings.{mapping_of_map}
use Rattle.nx_ring.proofs.mappings.add_mappings.Given as goal

abbrev pub invariant-mappings : goal.invariant-mappings
invariant-mappings l = l.into.items ≡ l.fn.into.items ++ map (mapping_of_map l.bytes) (range_with_len 0 l.i)
