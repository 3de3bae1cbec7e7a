-- What a fault that a tree names says of it.
use Rattle.std.specs.Prelude.{ℕ, List}
use Rattle.view_rules.specs.declared.fault.TreeFault.{TreeFault}
use Rattle.view_rules.specs.declared.fault.TreeFault.TheVariants.{Unsound, Unnamed, Order, Counts, Record, DupName, Hash, NoParent, NoInode, KindMismatch, DirNames, Unreached, Children, Links, SiblingLost, ExtentOrder, ExtentPlace, ExtentUncovered, LinkTarget, Stream, AttrOwner, NameHash}
use Rattle.view_rules.specs.Facts.{Facts}
use Rattle.view_tree.specs.Met.{IsMetTwice}

-- what a fault that a tree names says of the tree: DirNames, that it met two entries of one directory; the others nothing
abbrev pub IsTold : Facts → List ℕ → TreeFault → Type 0
IsTold facts path (Unsound block why) = Unit {0}
IsTold facts path (Unnamed slot oid xid) = Unit {0}
IsTold facts path (Order slot xid item) = Unit {0}
IsTold facts path (Counts slot xid) = Unit {0}
IsTold facts path (Record slot xid item why) = Unit {0}
IsTold facts path (DupName at) = Unit {0}
IsTold facts path (Hash at) = Unit {0}
IsTold facts path (NoParent at) = Unit {0}
IsTold facts path (NoInode slot xid id name) = Unit {0}
IsTold facts path (KindMismatch at) = Unit {0}
IsTold facts path (DirNames at) = IsMetTwice facts path at.id
IsTold facts path (Unreached at) = Unit {0}
IsTold facts path (Children at) = Unit {0}
IsTold facts path (Links at) = Unit {0}
IsTold facts path (SiblingLost at) = Unit {0}
IsTold facts path (ExtentOrder at) = Unit {0}
IsTold facts path (ExtentPlace at) = Unit {0}
IsTold facts path (ExtentUncovered at) = Unit {0}
IsTold facts path (LinkTarget at) = Unit {0}
IsTold facts path (Stream at) = Unit {0}
IsTold facts path (AttrOwner at) = Unit {0}
IsTold facts path (NameHash at) = Unit {0}
