-- The faults that the facts of a view show.
use Rattle.std.specs.Prelude.{◌≡◌, ℕ, List, Option, None, Some, MatchOption, Result, Ok, Err}
use Rattle.std.specs.Option.{option_or}
use Rattle.apfs_model.specs.declared.failed.NoMemory.{NoMemory}
use Rattle.vol_view.specs.declared.volume.View.{View}
use Rattle.view_rules.specs.Facts.{Facts}
use Rattle.view_rules.specs.Names.{IsDupName, IsHash, IsNameHash}
use Rattle.view_rules.specs.Entries.{IsNoParent, IsNoInode, IsNoRoot, IsKindMismatch}
use Rattle.view_rules.specs.Directories.{IsDirNames, IsUnreached}
use Rattle.view_rules.specs.Counts.{IsChildren, IsLinks}
use Rattle.view_rules.specs.Siblings.{IsSiblingLost}
use Rattle.view_rules.specs.Extents.{IsExtentOrder, IsExtentPlace, IsExtentUncovered}
use Rattle.view_rules.specs.Inodes.{IsLinkTarget, IsStream, IsAttrOwner}
use Rattle.view_rules.specs.Rules.{IsOf}
use Rattle.view_rules.specs.declared.fault.IdAt.{IdAt}
use Rattle.view_rules.specs.declared.fault.NamedAt.{NamedAt}
use Rattle.view_rules.specs.declared.fault.TreeFault.{TreeFault}
use Rattle.view_rules.specs.declared.fault.TreeFault.TheVariants.{Unsound, Unnamed, Order, Counts, Record, DupName, Hash, NoParent, NoInode, KindMismatch, DirNames, Unreached, Children, Links, SiblingLost, ExtentOrder, ExtentPlace, ExtentUncovered, LinkTarget, Stream, AttrOwner, NameHash}
use Rattle.view_rules.specs.declared.profile.Profile.TheVariants.{Strict}
use Rattle.rule_breaks.specs.declared.faults.Asked.{Asked}

-- an object of a view
abbrev pub id_at : View → ℕ → IdAt
id_at view id = record { slot = view.slot; xid = view.xid; id = id }

-- a name of an object of a view
abbrev pub named_at : View → ℕ → List ℕ → NamedAt
named_at view id name = record { slot = view.slot; xid = view.xid; id = id; name = name }

-- a fault of a view is there, by its facts; no fault of its tree or of a record is shown by them
abbrev pub IsShown : Asked → Facts → TreeFault → Type 0
IsShown asked facts (Unsound block why) = ⊥
IsShown asked facts (Unnamed slot oid xid) = ⊥
IsShown asked facts (Order slot xid item) = ⊥
IsShown asked facts (Counts slot xid) = ⊥
IsShown asked facts (Record slot xid item why) = ⊥
IsShown asked facts (DupName at) = IsOf asked.view.now at.slot at.xid × IsDupName facts at.id at.name
IsShown asked facts (Hash at) = IsOf asked.view.now at.slot at.xid × IsHash facts at.id at.name
IsShown asked facts (NoParent at) = IsOf asked.view.now at.slot at.xid × IsNoParent facts at.id at.name
IsShown asked facts (NoInode slot xid id (Some name)) = IsOf asked.view.now slot xid × IsNoInode facts id name
IsShown asked facts (NoInode slot xid id None) = IsOf asked.view.now slot xid × IsNoRoot facts id
IsShown asked facts (KindMismatch at) = IsOf asked.view.now at.slot at.xid × IsKindMismatch facts at.id at.name
IsShown asked facts (DirNames at) = IsOf asked.view.now at.slot at.xid × IsDirNames facts at.id
IsShown asked facts (Unreached at) = IsOf asked.view.now at.slot at.xid × IsUnreached facts at.id
IsShown asked facts (Children at) = IsOf asked.view.now at.slot at.xid × IsChildren facts at.id
IsShown asked facts (Links at) = IsOf asked.view.now at.slot at.xid × IsLinks facts at.id
IsShown asked facts (SiblingLost at) = IsOf asked.view.now at.slot at.xid × IsSiblingLost facts at.id
IsShown asked facts (ExtentOrder at) = IsOf asked.view.now at.slot at.xid × IsExtentOrder asked.site.now.block_size facts at.id
IsShown asked facts (ExtentPlace at) = IsOf asked.view.now at.slot at.xid × IsExtentPlace asked.site.now.block_size asked.site.now.blocks facts at.id
IsShown asked facts (ExtentUncovered at) = IsOf asked.view.now at.slot at.xid × IsExtentUncovered asked.site.now.block_size asked.ranges.now facts at.id
IsShown asked facts (LinkTarget at) = IsOf asked.view.now at.slot at.xid × IsLinkTarget facts at.id
IsShown asked facts (Stream at) = IsOf asked.view.now at.slot at.xid × IsStream facts at.id
IsShown asked facts (AttrOwner at) = IsOf asked.view.now at.slot at.xid × IsAttrOwner facts at.id
IsShown asked facts (NameHash at) = IsOf asked.view.now at.slot at.xid × (asked.profile ≡ Strict) × IsNameHash facts at.id at.name

-- some rules hold, or the fault that is given is there
abbrev pub IsFirst : Asked → Facts → Type 0 → Option TreeFault → Type 0
IsFirst asked facts rules first = MatchOption first rules (IsShown asked facts)

-- the first of two faults, where memory was enough for both
abbrev pub either : Result (Option TreeFault) NoMemory → Result (Option TreeFault) NoMemory → Result (Option TreeFault) NoMemory
either (Ok one) (Ok other) = Ok (option_or one other)
either (Ok one) (Err e) = Err e
either (Err e) other = Err e
