use Rattle.view_rules.specs.Directories.{HasWays}
use Rattle.rule_breaks.proofs.Shown.{both}
use Rattle.tree_rules.specs.Groups.{HasDirectoryNameRules, HasCountRules}
use Rattle.tree_rules.proofs.faults.directory_fault.Goals as goal

pub returns : goal.returns
returns c =
    let a = c.args.asked.now in
    let f = c.args.index.now.facts.now in
    both a f (HasDirectoryNameRules f) (HasWays f × HasCountRules f) c.fault-directories.result c.or.result c.or-2.result c.or-2.ensures c.fault-directories.ensures
    (both a f (HasWays f) (HasCountRules f) c.in_ok-ways.ways c.fault-counts.result c.or.result c.or.ensures c.in_ok-ways.ensures c.fault-counts.ensures)
