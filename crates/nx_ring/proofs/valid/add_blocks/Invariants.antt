use Rattle.std.proofs.Common.{◌≡◌, ◌++◌}
use Rattle.nx_ring.specs.Objects.{first_blocks}
use Rattle.nx_ring.proofs.valid.add_blocks.Given as goal

abbrev pub invariant-each : goal.invariant-each
invariant-each l = l.into.items ≡ l.fn.into.items ++ first_blocks l.areas l.m l.t
