use Rattle.std.proofs.Common.{◌≡◌, take}
use Rattle.nx_ring.specs.Valid.{ids_of}
use Rattle.nx_ring.proofs.valid.ids_of.Given as goal

abbrev pub invariant-each : goal.invariant-each
invariant-each l = l.ids.items ≡ ids_of (take l.m-index l.mappings)
