-- The texts of faults.
use Rattle.std.specs.Prelude.{ℕ, List, Option, None, Some, codes}
use Rattle.std.specs.Fmt.{decimal, signed_decimal}
use Rattle.obj_base.specs.declared.header.HeadFault.{HeadFault}
use Rattle.obj_base.specs.declared.header.HeadFault.TheVariants.{BadSum, BadKind, BadSubtype, BadOid, BadXid}
use Rattle.obj_base.specs.declared.stop.Within.{Within}
use Rattle.obj_base.specs.declared.stop.Within.TheVariants.{Physical, Ephemeral, Container, Volume}
use Rattle.bt_node.specs.declared.fault.NodeFault.{NodeFault}
use Rattle.bt_node.specs.declared.fault.NodeFault.TheVariants.{Head, Level, Flags as WrongFlags, Bounds, Key, Empty, Ghost}
use Rattle.fs_name.specs.Shown.{shown_name}
use Rattle.fs_record.specs.declared.fault.RecFault.{RecFault}
use Rattle.fs_record.specs.declared.fault.RecFault.TheVariants.{Length, Name, Fields, Flags}
use Rattle.reach_rules.specs.declared.fault.Why.{Why}
use Rattle.reach_rules.specs.declared.fault.Why.TheVariants.{Node, Magic}
use Rattle.view_rules.specs.declared.fault.IdAt.{IdAt}
use Rattle.view_rules.specs.declared.fault.NamedAt.{NamedAt}
use Rattle.apfs_check.specs.declared.fault.Fault.{Fault}
use Rattle.apfs_check.specs.declared.fault.Fault.TheVariants.{BlockZero, Truncated, NoCheckpoint, Unsound, Unnamed, NamedTwice, OwnedTwice, Outside, UnusedMapping, Leaked, Missing, PoolLeaked, PoolMissing, SpaceGeometry, SpaceCab, SpaceCib, SpaceIndex, SpacePlace, SpaceFreeCount, SpaceFreeTotal, PoolCount, PoolIndex, PoolPlace, SnapRecord, SnapCount, SnapName, OmapSnaps, TreeOrder, TreeCounts, Order, Counts, TreeRecord, Record, DupName, Hash, NoParent, NoInode, KindMismatch, DirNames, Unreached, Children, Links, SiblingLost, ExtentOrder, ExtentPlace, ExtentUncovered, LinkTarget, Stream, AttrOwner, NameHash, DataUnreached, DataCount}
use Rattle.cmd_lines.specs.Texts.{◌▹◌}
use Rattle.cmd_lines.specs.declared.named.Named.{Named}
use Rattle.cmd_lines.specs.declared.named.Named.TheVariants.{InContainer, InUsage, InExport, NoTable, BadTable, NoPartition, PartOutside}

-- the test of a header that fails
abbrev pub head_word : HeadFault → List ℕ
head_word BadSum = codes "BadSum"
head_word BadKind = codes "BadKind"
head_word BadSubtype = codes "BadSubtype"
head_word BadOid = codes "BadOid"
head_word BadXid = codes "BadXid"

-- the test of a node that fails
abbrev pub node_word : NodeFault → List ℕ
node_word (Head fault) = head_word fault
node_word Level = codes "Level"
node_word WrongFlags = codes "Flags"
node_word Bounds = codes "Bounds"
node_word Key = codes "Key"
node_word Empty = codes "Empty"
node_word Ghost = codes "Ghost"

-- the test that a named object fails
abbrev pub why_word : Why → List ℕ
why_word (Node fault) = node_word fault
why_word Magic = codes "Magic"

-- the part of a record that is wrong
abbrev pub record_word : RecFault → List ℕ
record_word Length = codes "Length"
record_word Name = codes "Name"
record_word Fields = codes "Fields"
record_word Flags = codes "Flags"

-- where an id is looked up
abbrev pub within_text : Within → List ℕ
within_text Physical = codes "physical"
within_text Ephemeral = codes "ephemeral"
within_text Container = codes "container"
within_text (Volume slot) = codes "volume " ▹ decimal slot

-- an object in a block fails a test
abbrev pub unsound_text : ℕ → List ℕ → List ℕ
unsound_text block word = codes "Unsound block " ▹ decimal block ▹ codes " " ▹ word

-- an id in a space at a transaction
abbrev pub oid_text : List ℕ → Within → ℕ → ℕ → List ℕ
oid_text word within oid xid = word ▹ codes " " ▹ within_text within ▹ codes " oid " ▹ decimal oid ▹ codes " xid " ▹ decimal xid

-- a volume in a slot
abbrev pub slot_text : ℕ → List ℕ → List ℕ
slot_text slot word = codes "Volume " ▹ decimal slot ▹ codes " " ▹ word

-- a tree by the block of its root
abbrev pub root_text : List ℕ → ℕ → List ℕ
root_text word root = word ▹ codes " root " ▹ decimal root

-- a block
abbrev pub block_text : List ℕ → ℕ → List ℕ
block_text word block = word ▹ codes " block " ▹ decimal block

-- a number after a word
abbrev pub number_text : List ℕ → ℕ → List ℕ
number_text word number = word ▹ codes " " ▹ decimal number

-- an item of a tree or of a view
abbrev pub item_text : List ℕ → ℕ → List ℕ
item_text place item = place ▹ codes " item " ▹ decimal item

-- a view by the slot of its volume and its transaction
abbrev pub view_text : List ℕ → ℕ → ℕ → List ℕ
view_text word slot xid = word ▹ codes " volume " ▹ decimal slot ▹ codes " view " ▹ decimal xid

-- an object of a view by its id
abbrev pub object_text : List ℕ → ℕ → ℕ → ℕ → List ℕ
object_text word slot xid id = view_text word slot xid ▹ codes " id " ▹ decimal id

-- and by a name of it
abbrev pub named_text : List ℕ → ℕ → ℕ → ℕ → List ℕ → List ℕ
named_text word slot xid id name = object_text word slot xid id ▹ codes " name " ▹ shown_name name

-- an object of a view
abbrev pub id_text : List ℕ → IdAt → List ℕ
id_text word at = object_text word at.slot at.xid at.id

-- a name of an object of a view
abbrev pub name_text : List ℕ → NamedAt → List ℕ
name_text word at = named_text word at.slot at.xid at.id at.name

-- an id without an inode; without a name it is that of the root
abbrev pub inode_text : ℕ → ℕ → ℕ → Option (List ℕ) → List ℕ
inode_text slot xid id None = object_text (codes "NoInode") slot xid id
inode_text slot xid id (Some name) = named_text (codes "NoInode") slot xid id name

-- a run of blocks of a volume
abbrev pub run_text : List ℕ → ℕ → ℕ → ℕ → List ℕ
run_text word slot block length = word ▹ codes " volume " ▹ decimal slot ▹ codes " block " ▹ decimal block ▹ codes " length " ▹ decimal length

-- a new range of a volume, with the count that it stores and the number of its streams
abbrev pub count_text : List ℕ → ℕ → ℕ → List ℕ → ℕ → List ℕ
count_text word slot block stored streams = word ▹ codes " volume " ▹ decimal slot ▹ codes " block " ▹ decimal block ▹ codes " stored " ▹ stored ▹ codes " streams " ▹ decimal streams

-- an image has fewer blocks than it needs
abbrev pub truncated_text : ℕ → ℕ → List ℕ
truncated_text have need = codes "Truncated have " ▹ decimal have ▹ codes " need " ▹ decimal need

-- the record of an item of a view
abbrev pub record_text : ℕ → ℕ → ℕ → RecFault → List ℕ
record_text slot xid item why = item_text (view_text (codes "Record") slot xid) item ▹ codes " " ▹ record_word why

-- the text of a fault
abbrev pub fault_text : Fault → List ℕ
fault_text BlockZero = codes "BlockZero"
fault_text (Truncated have need) = truncated_text have need
fault_text NoCheckpoint = codes "NoCheckpoint"
fault_text (Unsound block why) = unsound_text block (why_word why)
fault_text (Unnamed within oid xid) = oid_text (codes "Unnamed") within oid xid
fault_text (NamedTwice within oid xid) = oid_text (codes "NamedTwice") within oid xid
fault_text (OwnedTwice block) = block_text (codes "OwnedTwice") block
fault_text (Outside block) = block_text (codes "Outside") block
fault_text (UnusedMapping within oid xid) = oid_text (codes "UnusedMapping") within oid xid
fault_text (Leaked block) = block_text (codes "Leaked") block
fault_text (Missing block) = block_text (codes "Missing") block
fault_text (PoolLeaked block) = block_text (codes "PoolLeaked") block
fault_text (PoolMissing block) = block_text (codes "PoolMissing") block
fault_text SpaceGeometry = codes "Space Geometry"
fault_text (SpaceCab i) = number_text (codes "Space Cab") i
fault_text (SpaceCib i) = number_text (codes "Space Cib") i
fault_text (SpaceIndex k) = number_text (codes "Space Index") k
fault_text (SpacePlace block) = number_text (codes "Space Place") block
fault_text (SpaceFreeCount k) = number_text (codes "Space FreeCount") k
fault_text SpaceFreeTotal = codes "Space FreeTotal"
fault_text PoolCount = codes "Pool Count"
fault_text (PoolIndex i) = number_text (codes "Pool Index") i
fault_text (PoolPlace block) = number_text (codes "Pool Place") block
fault_text (SnapRecord slot) = slot_text slot (codes "SnapRecord")
fault_text (SnapCount slot) = slot_text slot (codes "SnapCount")
fault_text (SnapName slot) = slot_text slot (codes "SnapName")
fault_text (OmapSnaps slot) = slot_text slot (codes "OmapSnaps")
fault_text (TreeOrder root item) = item_text (root_text (codes "Order") root) item
fault_text (TreeCounts root) = root_text (codes "Counts") root
fault_text (Order slot xid item) = item_text (view_text (codes "Order") slot xid) item
fault_text (Counts slot xid) = view_text (codes "Counts") slot xid
fault_text (TreeRecord root item) = item_text (root_text (codes "Record") root) item
fault_text (Record slot xid item why) = record_text slot xid item why
fault_text (DupName at) = name_text (codes "DupName") at
fault_text (Hash at) = name_text (codes "Hash") at
fault_text (NoParent at) = name_text (codes "NoParent") at
fault_text (NoInode slot xid id name) = inode_text slot xid id name
fault_text (KindMismatch at) = name_text (codes "KindMismatch") at
fault_text (DirNames at) = id_text (codes "DirNames") at
fault_text (Unreached at) = id_text (codes "Unreached") at
fault_text (Children at) = id_text (codes "Children") at
fault_text (Links at) = id_text (codes "Links") at
fault_text (SiblingLost at) = id_text (codes "SiblingLost") at
fault_text (ExtentOrder at) = id_text (codes "ExtentOrder") at
fault_text (ExtentPlace at) = id_text (codes "ExtentPlace") at
fault_text (ExtentUncovered at) = id_text (codes "ExtentUncovered") at
fault_text (LinkTarget at) = id_text (codes "LinkTarget") at
fault_text (Stream at) = id_text (codes "Stream") at
fault_text (AttrOwner at) = id_text (codes "AttrOwner") at
fault_text (NameHash at) = name_text (codes "NameHash") at
fault_text (DataUnreached slot block length) = run_text (codes "DataUnreached") slot block length
fault_text (DataCount slot block stored streams) = count_text (codes "DataCount") slot block (signed_decimal stored) streams

-- the text of a fault that is named: of the container, of a view whose blocks can't be counted, of what can't be put into a folder, or of the table of a disk's partitions
abbrev pub named_fault_text : Named → List ℕ
named_fault_text (InContainer fault) = fault_text fault
named_fault_text (InUsage slot xid) = view_text (codes "Usage") slot xid
named_fault_text (InExport slot xid id) = object_text (codes "Export") slot xid id
named_fault_text NoTable = codes "Gpt NoTable"
named_fault_text BadTable = codes "Gpt BadTable"
named_fault_text NoPartition = codes "Gpt NoPartition"
named_fault_text (PartOutside at) = number_text (codes "Gpt PartOutside entry") at
