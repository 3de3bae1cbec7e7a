use Rattle.std.proofs.Common.{◌≡◌, None, take}
use Rattle.std.specs.List.{find}
use Rattle.rule_breaks.specs.ByInode.{is_broken}
use Rattle.rule_breaks.proofs.faults.by_inode.InodeRule.first.Given as goal

abbrev pub invariant-loop-f : goal.invariant-loop-f
invariant-loop-f l = find (is_broken l.index.facts.now l.self) (take l.f-index l.index.facts.now.inodes) ≡ None
