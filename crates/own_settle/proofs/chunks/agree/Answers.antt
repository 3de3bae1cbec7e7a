use Rattle.std.proofs.Common.{refl, arith}
use Rattle.own_settle.proofs.ChunkLemmas.{agreed-from, wrong-count}
use Rattle.own_settle.proofs.chunks.agree.Goals as goal

pub returns-then-from-ones-clause-present : goal.returns-then-from-ones-clause-present
returns-then-from-ones-clause-present c =
    let value = c.ones_in-ones.ensures.value in
    wrong-count c.args.bits.now c.args.number c.args.blocks c.args.free (λ e. c.if-from-ones.true (omega (arith, e, value)))

pub returns-clause-clear : goal.returns-clause-clear
returns-clause-clear c =
    let value = c.ones_in-ones.ensures.value in
    agreed-from c.args.bits.now c.args.ledger.now c.args.first c.args.blocks c.args.free (c.in_default.ensures.agree refl) (omega (arith, value))
