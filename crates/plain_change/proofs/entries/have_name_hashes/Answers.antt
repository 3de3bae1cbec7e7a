use Rattle.std.proofs.Common.{◌∙◌, ap}
use Rattle.view_rules.specs.Facts.{Facts}
use Rattle.view_rules.specs.Names.{has_other_name_hash}
use Rattle.rule_breaks.proofs.Finds.{next_item}
use Rattle.plain_change.proofs.entries.have_name_hashes.Goals as goal

pub loop-e-preserved : goal.loop-e-preserved
loop-e-preserved c =
    next_item (has_other_name_hash c.args.facts.now) c.args.come.now.entries c.deref-e-items.result.now c.loop-e.e-index c.e-item.result c.in_ok-other.other
    (c.deref-e-items.ensures.value ∙ ap (λ (f : Facts). f.entries) c.come.view_is) c.loop-e-test.true c.e-item.is c.loop-e.invariant c.in_ok-other.ensures c.if-other.false
