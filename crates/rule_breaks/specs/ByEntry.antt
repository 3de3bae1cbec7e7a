-- The rules on each entry, and the fault that one shows which breaks them.
use Rattle.std.specs.Prelude.{Bool, Some}
use Rattle.fs_record.specs.Entries.{Entry}
use Rattle.fs_record.specs.Facts.{Fact}
use Rattle.view_rules.specs.Facts.{Facts}
use Rattle.view_rules.specs.Entries.{lacks_parent, lacks_inode, has_other_kind}
use Rattle.view_rules.specs.declared.fault.NamedAt.{NamedAt}
use Rattle.view_rules.specs.declared.fault.TreeFault.{TreeFault}
use Rattle.view_rules.specs.declared.fault.TreeFault.TheVariants.{NoParent, NoInode, KindMismatch}
use Rattle.rule_breaks.specs.declared.faults.entries.EntryRule.{EntryRule}
use Rattle.rule_breaks.specs.declared.faults.entries.EntryRule.TheVariants.{Directory, File, Kind}

-- an entry breaks a rule
abbrev pub is_broken : Facts → EntryRule → Fact Entry → Bool
is_broken facts Directory = lacks_parent facts
is_broken facts File = lacks_inode facts
is_broken facts Kind = has_other_kind facts

-- the fault of an entry that breaks a rule
abbrev pub fault : EntryRule → NamedAt → TreeFault
fault Directory at = NoParent at
fault File at = NoInode at.slot at.xid at.id (Some at.name)
fault Kind at = KindMismatch at
