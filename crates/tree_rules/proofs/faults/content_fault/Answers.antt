use Rattle.rule_breaks.proofs.Shown.{both}
use Rattle.tree_rules.specs.Groups.{HasSiblingRules, HasRulesFromExtents}
use Rattle.tree_rules.proofs.faults.content_fault.Goals as goal

pub returns : goal.returns
returns c =
    let a = c.args.asked.now in
    let f = c.args.index.now.facts.now in
    both a f (HasSiblingRules f) (HasRulesFromExtents a f) c.in_ok-siblings.siblings c.in_ok-extents.extents c.or.result c.or.ensures c.in_ok-siblings.ensures c.in_ok-extents.ensures
