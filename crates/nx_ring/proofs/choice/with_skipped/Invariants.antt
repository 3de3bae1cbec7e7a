use Rattle.std.proofs.Common.{◌≡◌, take}
use Rattle.nx_ring.specs.Newest.{skipped_of}
use Rattle.nx_ring.proofs.choice.with_skipped.Given as goal

abbrev pub invariant-each : goal.invariant-each
invariant-each l = l.passed.items ≡ skipped_of (take l.line-index l.lines) l.xid
