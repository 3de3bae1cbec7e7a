use Rattle.std.proofs.Common.{get_or, arith}
use Rattle.rule_index.specs.Ids.{count_in}
use Rattle.id_lists.proofs.InOrder.{repeated-count, distinct-count}
use Rattle.rule_index.proofs.counts.are_distinct.Goals as goal

pub returns-then-ids-i-clause-repeated : goal.returns-then-ids-i-clause-repeated
unfolding count_in
returns-then-ids-i-clause-repeated c = λ _. (get_or c.args.ids.now c.loop-i.i 0, repeated-count c.args.ids.now c.loop-i.i c.loop-i.invariant.0 c.loop-i-test.true c.if-ids-i.true)

pub returns-clause-distinct : goal.returns-clause-distinct
unfolding count_in
returns-clause-distinct c = λ _. distinct-count c.args.ids.now c.requires (λ k low. c.loop-i.invariant.1 k (omega arith))
