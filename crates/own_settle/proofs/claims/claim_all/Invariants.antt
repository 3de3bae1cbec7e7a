use Rattle.std.proofs.Common.{take}
use Rattle.own_settle.specs.Claimed.{AreClaimed}
use Rattle.own_settle.proofs.claims.claim_all.Given as goal

abbrev pub invariant-each : goal.invariant-each
invariant-each l = AreClaimed l.fn.ledger l.ledger (take l.range-index l.ranges)
