use Rattle.std.proofs.Common.{◌≡◌, ◌≤◌, take, length}
use Rattle.nx_ring.specs.Valid.{blocks_of}
use Rattle.nx_ring.proofs.valid.are_few.Given as goal

abbrev pub invariant-each : goal.invariant-each
invariant-each l = record {
  counted : l.count ≡ length (blocks_of l.areas (take l.m-index l.mappings));
  few : l.count ≤ l.areas.data_blocks;
}
