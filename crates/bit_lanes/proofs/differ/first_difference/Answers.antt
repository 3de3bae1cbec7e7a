use Rattle.std.proofs.Common.{refl, arith}
use Rattle.std.proofs.lemmas.Grind.{same_number_lists}
use Rattle.bit_lanes.proofs.ByteLemmas.{first_from_byte}
use Rattle.bit_lanes.proofs.differ.first_difference.Goals as goal

pub returns-then-a-i-clause-value : goal.returns-then-a-i-clause-value
returns-then-a-i-clause-value c =
    first_from_byte c.args.a.now c.args.b.now c.bytes.i c.lowest_difference.result (omega arith) c.lowest_difference.ensures c.bytes.invariant

pub returns-clause-equal : goal.returns-clause-equal
returns-clause-equal c =
    (λ none. same_number_lists c.args.a.now c.args.b.now c.requires.same_length (λ k low. c.bytes.invariant k (omega arith)), λ same. refl)
