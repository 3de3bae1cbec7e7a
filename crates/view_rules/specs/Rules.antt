-- The rules of a view, and what is there where it breaks one.
use Rattle.std.specs.Prelude.{◌≡◌, ℕ, true, false, List, slice_get, Option, None, Some, if◌then◌else◌}
use Rattle.apfs_model.specs.Counts.{given}
use Rattle.apfs_model.specs.Lists.{In}
use Rattle.obj_base.specs.declared.site.Site.{Site}
use Rattle.bt_cursor.specs.Line.{Item, is_leaf_item}
use Rattle.bt_cursor.specs.declared.fault.WalkFault.TheVariants as walks
use Rattle.fs_name.specs.declared.naming.Names.{Names}
use Rattle.fs_record.specs.Facts.{refused}
use Rattle.fs_record.specs.declared.fault.RecFault.{RecFault}
use Rattle.vol_view.specs.Volumes.{Loaded}
use Rattle.vol_view.specs.Views.{view_flat, view_line, is_view_walkable, is_view_ordered, is_view_counted, IsViewFault}
use Rattle.vol_view.specs.declared.volume.View.{View}
use Rattle.ext_ref.specs.declared.range.NewRange.{NewRange}
use Rattle.view_rules.specs.Facts.{Facts, facts_in}
use Rattle.view_rules.specs.Names.{HasDistinctEntries, HasDistinctAttributes, IsDupName, HasAsciiHashes, IsHash, HasNameHashes, IsNameHash}
use Rattle.view_rules.specs.Entries.{HasParents, IsNoParent, HasFiles, IsNoInode, has_root, IsNoRoot, HasKinds, IsKindMismatch}
use Rattle.view_rules.specs.Directories.{HasDirNames, is_root_named, IsDirNames, HasWays, IsUnreached}
use Rattle.view_rules.specs.Counts.{HasChildren, IsChildren, HasLinks, IsLinks}
use Rattle.view_rules.specs.Siblings.{HasEntryFellows, HasLinkFellows, HasMapFellows, HasMarks, IsSiblingLost}
use Rattle.view_rules.specs.Extents.{HasExtentOrder, IsExtentOrder, HasExtentPlaces, IsExtentPlace, HasCover, IsExtentUncovered}
use Rattle.view_rules.specs.Inodes.{HasTargets, IsLinkTarget, HasStreamSizes, HasBodySizes, IsStream, HasOwners, IsAttrOwner}
use Rattle.view_rules.specs.declared.fault.TreeFault.{TreeFault}
use Rattle.view_rules.specs.declared.fault.TreeFault.TheVariants.{Unsound, Unnamed, Order, Counts, Record, DupName, Hash, NoParent, NoInode, KindMismatch, DirNames, Unreached, Children, Links, SiblingLost, ExtentOrder, ExtentPlace, ExtentUncovered, LinkTarget, Stream, AttrOwner, NameHash}
use Rattle.view_rules.specs.declared.profile.Profile.{Profile}
use Rattle.view_rules.specs.declared.profile.Profile.TheVariants.{Strict}

-- the facts of a view; names are compared as in the volume as it is, in a snapshot too
abbrev pub view_facts : List ℕ → Site → Loaded → View → Facts
view_facts image site volume view = facts_in volume.names (view_flat image site volume view)

-- the part for which the reader of an item's record refuses it, if it does; an item above the leaves is no record
unfoldable pub refusal_of : Names → Item → Option RecFault
refusal_of names item = if is_leaf_item item then refused names item.pair else None

-- each record of a Line can be read
abbrev pub HasRecords : Names → List Item → Type 0
HasRecords names line = (item : Item) → In item line → refusal_of names item ≡ None

-- Record: a record of a Line is refused, and the number of its item, from 0, is this one as it is given
pub record IsRecord (names : Names) (line : List Item) (at : ℕ) (why : RecFault) : Type 0 where
  pub number : ℕ
  pub item : Item
  pub found : slice_get line number ≡ Some item
  pub part : refusal_of names item ≡ Some why
  pub same : at ≡ given number

-- what the facts of a view have, in the order of the rules
pub record HasFactRules (profile : Profile) (site : Site) (ranges : List NewRange) (facts : Facts) : Type 0 where
  pub entry_names : HasDistinctEntries facts
  pub attribute_names : HasDistinctAttributes facts
  pub ascii_hashes : HasAsciiHashes facts
  pub parents : HasParents facts
  pub files : HasFiles facts
  pub root : has_root facts ≡ true
  pub kinds : HasKinds facts
  pub directory_names : HasDirNames facts
  pub root_name : is_root_named facts ≡ false
  pub ways : HasWays facts
  pub children : HasChildren facts
  pub links : HasLinks facts
  pub entry_fellows : HasEntryFellows facts
  pub link_fellows : HasLinkFellows facts
  pub map_fellows : HasMapFellows facts
  pub marks : HasMarks facts
  pub extent_order : HasExtentOrder site.block_size facts
  pub extent_places : HasExtentPlaces site.block_size site.blocks facts
  pub cover : HasCover site.block_size ranges facts
  pub targets : HasTargets facts
  pub stream_sizes : HasStreamSizes facts
  pub body_sizes : HasBodySizes facts
  pub owners : HasOwners facts
  pub name_hashes : profile ≡ Strict → HasNameHashes facts

-- the rules of a view: its tree is walkable, ordered and counted, its records can be read, and its facts have theirs; the
-- ranges are the new ranges of the volume and of its snapshots
pub record HasTreeRules (profile : Profile) (image : List ℕ) (site : Site) (volume : Loaded) (view : View) (ranges : List NewRange) : Type 0 where
  pub walkable : is_view_walkable image site volume view ≡ true
  pub ordered : is_view_ordered image site volume view ≡ true
  pub counted : is_view_counted image site volume view ≡ true
  pub records : HasRecords volume.names (view_line image site volume view)
  pub facts : HasFactRules profile site ranges (view_facts image site volume view)

-- a slot and a transaction are a view's
abbrev pub IsOf : View → ℕ → ℕ → Type 0
IsOf view slot xid = (slot ≡ view.slot) × (xid ≡ view.xid)

-- the fault of a view is there
abbrev pub IsTreeFault : Profile → List ℕ → Site → Loaded → View → List NewRange → TreeFault → Type 0
IsTreeFault profile image site volume view ranges (Unsound block why) = IsViewFault image site volume view (walks.Unsound block why)
IsTreeFault profile image site volume view ranges (Unnamed slot oid xid) = IsOf view slot xid × IsViewFault image site volume view (walks.Unnamed oid)
IsTreeFault profile image site volume view ranges (Order slot xid item) = IsOf view slot xid × IsViewFault image site volume view (walks.Order item)
IsTreeFault profile image site volume view ranges (Counts slot xid) = IsOf view slot xid × IsViewFault image site volume view walks.Counts
IsTreeFault profile image site volume view ranges (Record slot xid item why) = IsOf view slot xid × IsRecord volume.names (view_line image site volume view) item why
IsTreeFault profile image site volume view ranges (DupName at) = IsOf view at.slot at.xid × IsDupName (view_facts image site volume view) at.id at.name
IsTreeFault profile image site volume view ranges (Hash at) = IsOf view at.slot at.xid × IsHash (view_facts image site volume view) at.id at.name
IsTreeFault profile image site volume view ranges (NoParent at) = IsOf view at.slot at.xid × IsNoParent (view_facts image site volume view) at.id at.name
IsTreeFault profile image site volume view ranges (NoInode slot xid id (Some name)) = IsOf view slot xid × IsNoInode (view_facts image site volume view) id name
IsTreeFault profile image site volume view ranges (NoInode slot xid id None) = IsOf view slot xid × IsNoRoot (view_facts image site volume view) id
IsTreeFault profile image site volume view ranges (KindMismatch at) = IsOf view at.slot at.xid × IsKindMismatch (view_facts image site volume view) at.id at.name
IsTreeFault profile image site volume view ranges (DirNames at) = IsOf view at.slot at.xid × IsDirNames (view_facts image site volume view) at.id
IsTreeFault profile image site volume view ranges (Unreached at) = IsOf view at.slot at.xid × IsUnreached (view_facts image site volume view) at.id
IsTreeFault profile image site volume view ranges (Children at) = IsOf view at.slot at.xid × IsChildren (view_facts image site volume view) at.id
IsTreeFault profile image site volume view ranges (Links at) = IsOf view at.slot at.xid × IsLinks (view_facts image site volume view) at.id
IsTreeFault profile image site volume view ranges (SiblingLost at) = IsOf view at.slot at.xid × IsSiblingLost (view_facts image site volume view) at.id
IsTreeFault profile image site volume view ranges (ExtentOrder at) = IsOf view at.slot at.xid × IsExtentOrder site.block_size (view_facts image site volume view) at.id
IsTreeFault profile image site volume view ranges (ExtentPlace at) = IsOf view at.slot at.xid × IsExtentPlace site.block_size site.blocks (view_facts image site volume view) at.id
IsTreeFault profile image site volume view ranges (ExtentUncovered at) = IsOf view at.slot at.xid × IsExtentUncovered site.block_size ranges (view_facts image site volume view) at.id
IsTreeFault profile image site volume view ranges (LinkTarget at) = IsOf view at.slot at.xid × IsLinkTarget (view_facts image site volume view) at.id
IsTreeFault profile image site volume view ranges (Stream at) = IsOf view at.slot at.xid × IsStream (view_facts image site volume view) at.id
IsTreeFault profile image site volume view ranges (AttrOwner at) = IsOf view at.slot at.xid × IsAttrOwner (view_facts image site volume view) at.id
IsTreeFault profile image site volume view ranges (NameHash at) = IsOf view at.slot at.xid × (profile ≡ Strict) × IsNameHash (view_facts image site volume view) at.id at.name
