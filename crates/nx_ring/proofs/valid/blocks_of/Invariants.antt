use Rattle.std.proofs.Common.{◌≡◌, take}
use Rattle.nx_ring.specs.Valid.{blocks_of}
use Rattle.nx_ring.proofs.valid.blocks_of.Given as goal

abbrev pub invariant-each : goal.invariant-each
invariant-each l = l.blocks.items ≡ blocks_of l.areas (take l.m-index l.mappings)
