use Rattle.rule_changes.proofs.Fellows.{fellows-alone}
use Rattle.plain_change.proofs.siblings.are_left_alone.Goals as goal

pub returns-then-are_none : goal.returns-then-are_none
returns-then-are_none c holds after = fellows-alone after c.args.gone.now c.args.come.now (c.are_none.ensures c.if-are_none.true) (c.are_none-then-are_none.ensures holds)
