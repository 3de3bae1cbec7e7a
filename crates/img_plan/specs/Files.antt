-- The files of a volume while they are put together: their inodes by id, and the records beside them.
use Rattle.std.specs.Prelude.{◌≡◌, ℕ, ◌+◌, ◌-◌, ◌^◌, ◌/◌, ◌==◌, min, List, [], ◌∷◌, ◌++◌, Option, Some, None, option_map, codes, if◌then◌else◌}
use Rattle.std.specs.BTreeMap.{get, values}
use Rattle.std.specs.Ordering.{nat_cmp}
use Rattle.std.specs.List.{AllZip}
use Rattle.std.specs.List.Sorted.{IsPermutation}
use Rattle.fs_name.specs.declared.naming.Names.{Names}
use Rattle.img_plan.specs.declared.files.FileTree.{FileTree}
use Rattle.img_plan.specs.declared.records.entries.EntryPlan.{EntryPlan}
use Rattle.img_plan.specs.declared.records.inodes.InodePlan.{InodePlan}
use Rattle.img_plan.specs.Packing.{Pair}
use Rattle.img_plan.specs.Records.{IsEntryKey, IsEntryValue, IsExtentValue, IsInodeValue, IsLinkValue, IsLongKey, IsNumberValue, IsShortKey, IsStreamValue, directory_of}

-- how the names of the volume are compared
abbrev pub names_of : FileTree → Names
names_of tree = tree.names

-- the inode of an id, where there is one
abbrev pub inode_of : FileTree → ℕ → Option InodePlan
inode_of tree id = get nat_cmp tree.inodes id

-- the records beside the inodes, in the order in which they were added
abbrev pub records_of : FileTree → List Pair
records_of tree = tree.items.items

-- the inodes by rising id
abbrev pub inodes_of : FileTree → List InodePlan
inodes_of tree = values tree.inodes

-- the record of an entry with a name
pub record IsEntry (names : Names) (plan : EntryPlan) (name : List ℕ) (item : Pair) : Type 0 where
  pub key : IsEntryKey names plan.directory name item.0.items
  pub value : IsEntryValue plan item.1.items

-- the record of an inode
pub record IsInode (plan : InodePlan) (item : Pair) : Type 0 where
  pub key : IsShortKey plan.id 3 item.0.items
  pub value : IsInodeValue plan item.1.items

-- the record of one name of a file that has several
pub record IsLink (file sibling directory : ℕ) (name : List ℕ) (item : Pair) : Type 0 where
  pub key : IsLongKey file 5 sibling item.0.items
  pub value : IsLinkValue directory name item.1.items

-- the record that leads from a sibling id to its file
pub record IsSiblingMap (sibling file : ℕ) (item : Pair) : Type 0 where
  pub key : IsShortKey sibling 12 item.0.items
  pub value : IsNumberValue file item.1.items

-- the record that there is a stream
pub record IsStream (stream : ℕ) (item : Pair) : Type 0 where
  pub key : IsShortKey stream 6 item.0.items
  pub value : IsStreamValue item.1.items

-- the record of an extent of a stream: its logical address, its length in bytes and its first block
pub record IsExtent (stream : ℕ) (extent : ℕ × ℕ × ℕ) (item : Pair) : Type 0 where
  pub key : IsLongKey stream 8 extent.0 item.0.items
  pub value : IsExtentValue extent.1 extent.2 item.1.items

-- an inode with one child or link more, up to the greatest number
abbrev pub one_more : InodePlan → InodePlan
one_more inode = record inode { children_or_links = min (inode.children_or_links + 1) (2 ^ 32 - 1) }

-- what becomes of the inode of an id where one id has one child or link more
abbrev pub raised : ℕ → ℕ → Option InodePlan → Option InodePlan
raised which id inode = if id == which then option_map one_more inode else inode

-- what becomes of the inode of an id where an inode is put in the place of any other of its id
abbrev pub placed : InodePlan → ℕ → Option InodePlan → Option InodePlan
placed plan id inode = if id == plan.id then Some plan else inode

-- the two directories that each volume has
abbrev pub first_inodes : ℕ → Option InodePlan
first_inodes id = if id == 2 then Some (directory_of 2 1) else (if id == 3 then Some (directory_of 3 1) else None)

-- the entry of an inode in its parent
abbrev pub entry_of : InodePlan → EntryPlan
entry_of plan = record { directory = plan.parent; file = plan.id; kind = plan.mode / 2 ^ 12; sibling = None }

-- nothing changes
pub record IsUnchanged (old new : FileTree) : Type 0 where
  pub names : names_of new ≡ names_of old
  pub inodes : (id : ℕ) → inode_of new id ≡ inode_of old id
  pub records : records_of new ≡ records_of old

-- one id has one child or link more
pub record Raises (which : ℕ) (old new : FileTree) : Type 0 where
  pub names : names_of new ≡ names_of old
  pub inodes : (id : ℕ) → inode_of new id ≡ raised which id (inode_of old id)
  pub records : records_of new ≡ records_of old

-- an inode is put in the place of any other of its id
pub record Places (plan : InodePlan) (old new : FileTree) : Type 0 where
  pub names : names_of new ≡ names_of old
  pub inodes : (id : ℕ) → inode_of new id ≡ placed plan id (inode_of old id)
  pub records : records_of new ≡ records_of old

-- a record is added
pub record AddsRecord (item : Pair) (old new : FileTree) : Type 0 where
  pub names : names_of new ≡ names_of old
  pub inodes : (id : ℕ) → inode_of new id ≡ inode_of old id
  pub records : records_of new ≡ records_of old ++ item ∷ []

-- an entry of a directory is added, which has one child more
pub record AddsEntry (plan : EntryPlan) (name : List ℕ) (old new : FileTree) : Type 0 where
  pub names : names_of new ≡ names_of old
  pub inodes : (id : ℕ) → inode_of new id ≡ raised plan.directory id (inode_of old id)
  pub item : Pair
  pub entry : IsEntry (names_of old) plan name item
  pub records : records_of new ≡ records_of old ++ item ∷ []

-- an inode is placed, and named in its parent
pub record AddsNamed (plan : InodePlan) (name : List ℕ) (old new : FileTree) : Type 0 where
  pub names : names_of new ≡ names_of old
  pub inodes : (id : ℕ) → inode_of new id ≡ raised plan.parent id (placed plan id (inode_of old id))
  pub item : Pair
  pub entry : IsEntry (names_of old) (entry_of plan) name item
  pub records : records_of new ≡ records_of old ++ item ∷ []

-- one of several names of a regular file is added: an entry, a link and a map; the directory and the file have one more
pub record AddsLink (file sibling directory : ℕ) (name : List ℕ) (old new : FileTree) : Type 0 where
  pub names : names_of new ≡ names_of old
  pub inodes : (id : ℕ) → inode_of new id ≡ raised file id (raised directory id (inode_of old id))
  pub items : Pair × Pair × Pair
  pub entry : IsEntry (names_of old) (record { directory = directory; file = file; kind = 8; sibling = Some sibling }) name items.0
  pub link : IsLink file sibling directory name items.1
  pub map : IsSiblingMap sibling file items.2
  pub records : records_of new ≡ records_of old ++ items.0 ∷ items.1 ∷ items.2 ∷ []

-- a stream is added, and its extents in their order
pub record AddsStream (id_of_stream : ℕ) (given : List (ℕ × ℕ × ℕ)) (old new : FileTree) : Type 0 where
  pub names : names_of new ≡ names_of old
  pub inodes : (id : ℕ) → inode_of new id ≡ inode_of old id
  pub head : Pair
  pub tail : List Pair
  pub stream : IsStream id_of_stream head
  pub extents : AllZip (IsExtent id_of_stream) given tail
  pub records : records_of new ≡ records_of old ++ head ∷ tail

-- the files of a volume with nothing but its two directories
pub record HasNoFiles (given : Names) (tree : FileTree) : Type 0 where
  pub names : names_of tree ≡ given
  pub inodes : (id : ℕ) → inode_of tree id ≡ first_inodes id
  pub items : Pair × Pair
  pub root : IsEntry given (entry_of (directory_of 2 1)) (codes "root") items.0
  pub private : IsEntry given (entry_of (directory_of 3 1)) (codes "private-dir") items.1
  pub records : records_of tree ≡ items.0 ∷ items.1 ∷ []

-- the records of a tree: those beside the inodes, and one of each inode
pub record HoldsAll (tree : FileTree) (items : List Pair) : Type 0 where
  pub inodes : List Pair
  pub each : AllZip IsInode (inodes_of tree) inodes
  pub all : IsPermutation (records_of tree ++ inodes) items
