use Rattle.std.proofs.Common.{◌≡◌, true, take}
use Rattle.std.specs.List.{list_all}
use Rattle.nx_ring.specs.Objects.{is_placed}
use Rattle.nx_ring.proofs.valid.are_placed.Given as goal

abbrev pub invariant-each : goal.invariant-each
invariant-each l = list_all (is_placed l.areas) (take l.m-index l.mappings) ≡ true
