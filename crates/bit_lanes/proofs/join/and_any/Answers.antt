use Rattle.std.proofs.Common.{arith}
use Rattle.bit_lanes.proofs.ByteLemmas.{no_share}
use Rattle.bit_lanes.proofs.join.and_any.Goals as goal

pub returns : goal.returns
returns c =
    (λ true. absurd (cc), λ share. absurd (no_share c.args.a.now c.args.b.now (λ i low. c.bytes.invariant i (omega arith)) share))
