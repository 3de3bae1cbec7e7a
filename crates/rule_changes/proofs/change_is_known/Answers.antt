use Rattle.rule_changes.proofs.Known.{records-weave, counts-follow, inodes-known, children-known, named-once, named-still, alike-by-hash, distinct-ids, children-step, links-known}
use Rattle.rule_changes.proofs.Fellows.{fellows-alone}
use Rattle.rule_changes.proofs.change_is_known.Goals as goal

pub returns-clause-woven : goal.returns-clause-woven
returns-clause-woven c = records-weave

pub returns-clause-numbers : goal.returns-clause-numbers
returns-clause-numbers c = counts-follow

pub returns-clause-inodes_before : goal.returns-clause-inodes_before
returns-clause-inodes_before c = inodes-known

pub returns-clause-children : goal.returns-clause-children
returns-clause-children c = children-known

pub returns-clause-named_once : goal.returns-clause-named_once
returns-clause-named_once c = named-once

pub returns-clause-named_still : goal.returns-clause-named_still
returns-clause-named_still c = named-still

pub returns-clause-alike : goal.returns-clause-alike
returns-clause-alike c = alike-by-hash

pub returns-clause-fellows : goal.returns-clause-fellows
returns-clause-fellows c = fellows-alone

pub returns-clause-one_inode : goal.returns-clause-one_inode
returns-clause-one_inode c = distinct-ids

pub returns-clause-children_step : goal.returns-clause-children_step
returns-clause-children_step c = children-step

pub returns-clause-links : goal.returns-clause-links
returns-clause-links c = links-known
