use Rattle.std.proofs.Common.{ℕ}
use Rattle.own_settle.proofs.ClaimLemmas.{claimed-none, claimed-more, refused-range}
use Rattle.own_settle.proofs.claims.claim_all.Goals as goal

abbrev nought : ℕ × ℕ
nought = (0, 0)

pub each-init : goal.each-init
each-init c = claimed-none c.args.ledger.now c.args.ranges.now c.requires

pub each-preserved : goal.each-preserved
each-preserved c =
    claimed-more c.args.ledger.now c.each.ledger c.claim.new.self c.args.ranges.now c.each.range-index nought c.each-test.true c.each.invariant c.in-Ok.ensures.clear c.in-Ok.ensures.added

pub returns-in-Err-clause-present : goal.returns-in-Err-clause-present
returns-in-Err-clause-present c =
    refused-range c.args.ledger.now c.each.ledger c.args.ranges.now c.each.range-index nought c.in-Err.fault c.each-test.true c.each.invariant c.in-Err.ensures.present
