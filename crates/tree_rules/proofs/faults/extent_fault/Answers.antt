use Rattle.rule_breaks.proofs.Shown.{both}
use Rattle.tree_rules.specs.Groups.{HasExtentRules, HasInodeRules, HasHashRules}
use Rattle.tree_rules.proofs.faults.extent_fault.Goals as goal

pub returns : goal.returns
returns c =
    let a = c.args.asked.now in
    let f = c.args.index.now.facts.now in
    both a f (HasExtentRules a f) (HasInodeRules f × HasHashRules a f) c.in_ok-extents.extents c.or.result c.or-2.result c.or-2.ensures c.in_ok-extents.ensures
    (both a f (HasInodeRules f) (HasHashRules a f) c.fault-inodes.result c.in_ok-hashes.hashes c.or.result c.or.ensures c.fault-inodes.ensures c.in_ok-hashes.ensures)
