use Rattle.std.proofs.Common.{◌≡◌, ◌/◌, length, take, length-take-le, sym, ◌∙◌, arith}
use Rattle.bit_lanes.proofs.CountLemmas.{ones_bound}
use Rattle.own_settle.proofs.ChunkLemmas.{ones-whole, ones-set, ones-clear}
use Rattle.own_settle.proofs.chunks.ones_in.Goals as goal
use Rattle.own_settle.proofs.chunks.ones_in.Goals.{then-is_set, else-is_set}

pub rest-init : goal.rest-init
rest-init c =
    let long : length (take (c.args.count / 8) c.args.bits.now) ≡ c.args.count / 8 = length-take-le (c.args.count / 8) c.args.bits.now (omega arith) in
    c.count_ones-ones.ensures.below (omega arith) ∙ ones-whole c.args.bits.now (c.args.count / 8) (omega arith)

pub overflow_add-ones : goal.overflow_add-ones
overflow_add-ones c = omega (arith, ones_bound c.args.bits.now c.rest.place)

pub rest-preserved : goal.rest-preserved
rest-preserved c =
    elim c.if-is_set.branch [
      | then-is_set w ↦ omega (arith, ones-set c.args.bits.now c.rest.place (sym c.is_set.ensures ∙ w.if-is_set.true))
      | else-is_set w ↦ omega (arith, ones-clear c.args.bits.now c.rest.place (sym c.is_set.ensures ∙ w.if-is_set.false))
    ]

pub returns-clause-few : goal.returns-clause-few
returns-clause-few c = omega (arith, ones_bound c.args.bits.now c.rest.place)
