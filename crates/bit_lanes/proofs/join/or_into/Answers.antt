use Rattle.std.proofs.Common.{◌∙◌, arith}
use Rattle.bit_lanes.proofs.ByteLemmas.{joined_bits, joined_at, joined_part}
use Rattle.bit_lanes.proofs.join.or_into.Goals as goal

pub parts-preserved : goal.parts-preserved
parts-preserved c =
    joined_part c.args.into.now c.args.from.now c.parts.into c.or_at.new.into c.parts.part c.parts.invariant c.or_at.ensures.joined c.or_at.ensures.before c.or_at.ensures.after

pub returns : goal.returns
returns c =
    joined_bits c.args.into.now c.args.from.now c.bytes.into
    (λ j. c.bytes.invariant j ∙ joined_at c.args.into.now c.args.from.now c.bytes.i j (omega arith) (omega arith))
