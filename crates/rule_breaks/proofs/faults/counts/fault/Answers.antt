use Rattle.view_rules.specs.Counts.{HasChildren, HasLinks}
use Rattle.rule_breaks.proofs.Shown.{both}
use Rattle.rule_breaks.proofs.faults.counts.fault.Goals as goal

pub returns : goal.returns
returns c =
    let f = c.args.index.now.facts.now in
    both c.args.asked.now f (HasChildren f) (HasLinks f) c.first-directory.result c.first.result c.or.result c.or.ensures c.first-directory.ensures c.first.ensures
