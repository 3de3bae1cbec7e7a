-- The rules on each inode, and the fault that one shows which breaks them.
use Rattle.std.specs.Prelude.{Bool}
use Rattle.fs_record.specs.Inodes.{Inode}
use Rattle.fs_record.specs.Facts.{Fact}
use Rattle.view_rules.specs.Facts.{Facts}
use Rattle.view_rules.specs.Directories.{is_misnamed}
use Rattle.view_rules.specs.Counts.{has_other_children, has_other_links}
use Rattle.view_rules.specs.Inodes.{lacks_target, has_large_stream}
use Rattle.view_rules.specs.declared.fault.IdAt.{IdAt}
use Rattle.view_rules.specs.declared.fault.TreeFault.{TreeFault}
use Rattle.view_rules.specs.declared.fault.TreeFault.TheVariants.{DirNames, Children, Links, LinkTarget, Stream}
use Rattle.rule_breaks.specs.declared.faults.by_inode.InodeRule.{InodeRule}
use Rattle.rule_breaks.specs.declared.faults.by_inode.InodeRule.TheVariants.{Home, ChildCount, LinkCount, Target, Size}

-- an inode breaks a rule
abbrev pub is_broken : Facts → InodeRule → Fact Inode → Bool
is_broken facts Home = is_misnamed facts
is_broken facts ChildCount = has_other_children facts
is_broken facts LinkCount = has_other_links facts
is_broken facts Target = lacks_target facts
is_broken facts Size = has_large_stream

-- the fault of an inode that breaks a rule
abbrev pub fault : InodeRule → IdAt → TreeFault
fault Home at = DirNames at
fault ChildCount at = Children at
fault LinkCount at = Links at
fault Target at = LinkTarget at
fault Size at = Stream at
