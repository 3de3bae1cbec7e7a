use Rattle.std.proofs.Common.{◌∙◌, arith}
use Rattle.bit_lanes.proofs.ByteLemmas.{met_bits, met_at}
use Rattle.bit_lanes.proofs.join.and_into.Goals as goal

pub returns : goal.returns
returns c =
    met_bits c.args.into.now c.args.from.now c.bytes.into
    (λ j. c.bytes.invariant j ∙ met_at c.args.into.now c.args.from.now c.bytes.i j (omega arith) (omega arith))
