use Rattle.rule_breaks.proofs.Shown.{both}
use Rattle.tree_rules.specs.Groups.{HasNameRules, HasEntryRules, HasDirectoryRules}
use Rattle.tree_rules.proofs.faults.naming_fault.Goals as goal

pub returns : goal.returns
returns c =
    let a = c.args.asked.now in
    let f = c.args.index.now.facts.now in
    both a f (HasNameRules f) (HasEntryRules f × HasDirectoryRules f) c.in_ok-names.names c.or.result c.or-2.result c.or-2.ensures c.in_ok-names.ensures
    (both a f (HasEntryRules f) (HasDirectoryRules f) c.in_ok-entries.entries c.in_ok-directories.directories c.or.result c.or.ensures c.in_ok-entries.ensures c.in_ok-directories.ensures)
