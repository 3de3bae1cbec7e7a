-- What keys and values of records hold, by the format's tables.
use Rattle.std.specs.Prelude.{◌≡◌, ℕ, ℤ, ◌+◌, ◌*◌, ◌/◌, ◌%◌, ◌^◌, ◌||◌, ◌==◌, nat_le, nat_lt, ◌-◌, min, List, [], ◌∷◌, ◌++◌, length, drop, replicate, slice_index, Option, None, Some, if◌then◌else◌}
use Rattle.std.specs.Int.{div_ceil}
use Rattle.std.specs.declared.cmp.Ordering.{Ordering}
use Rattle.std.specs.Ordering.{nat_cmp, ordering_then}
use Rattle.apfs_model.specs.Bytes.{u16_at, u32_at, u64_at, i32_at}
use Rattle.fs_name.specs.declared.naming.Names.{Names}
use Rattle.fs_name.specs.declared.naming.Names.TheVariants.{Exact, Normal, Folded}
use Rattle.fs_name.specs.Hash.{name_hash_of}
use Rattle.img_plan.specs.declared.records.entries.EntryPlan.{EntryPlan}
use Rattle.img_plan.specs.declared.records.inodes.InodePlan.{InodePlan}

-- what a record's key starts with: an id, of which the low 60 bits count, and a kind in the high 4 bits
abbrev pub id_and_kind : ℕ → ℕ → ℕ
id_and_kind id kind = id % 2 ^ 60 + kind * 2 ^ 60

-- a key that is an id and a kind
pub record IsShortKey (id kind : ℕ) (key : List ℕ) : Type 0 where
  pub len : length key ≡ 8
  pub start : u64_at key 0 ≡ id_and_kind id kind

-- a key that is an id, a kind and a second number
pub record IsLongKey (id kind second : ℕ) (key : List ℕ) : Type 0 where
  pub len : length key ≡ 16
  pub start : u64_at key 0 ≡ id_and_kind id kind
  pub after : u64_at key 8 ≡ second

-- a key that is two numbers
pub record IsPairKey (first second : ℕ) (key : List ℕ) : Type 0 where
  pub len : length key ≡ 16
  pub start : u64_at key 0 ≡ first
  pub after : u64_at key 8 ≡ second

-- a key that is one number
pub record IsNumberKey (number : ℕ) (key : List ℕ) : Type 0 where
  pub len : length key ≡ 8
  pub is : u64_at key 0 ≡ number

-- bytes that end in a name and a zero after it, and have the length of both in 16 bits before them, from a place on
pub record EndsInName (place : ℕ) (name bytes : List ℕ) : Type 0 where
  pub len : u16_at bytes place ≡ length name + 1
  pub rest : drop (place + 2) bytes ≡ name ++ 0 ∷ []

-- a key that is an id, a kind and a name
pub record IsNamedKey (id kind : ℕ) (name key : List ℕ) : Type 0 where
  pub start : u64_at key 0 ≡ id_and_kind id kind
  pub after : EndsInName 8 name key

-- a key that is an id, the kind of an entry, the hash of a name, of which the low 22 bits count, and the name, whose length stands below the hash (File-System Objects, j_drec_hashed_key_t)
pub record IsHashedKey (id hash : ℕ) (name key : List ℕ) : Type 0 where
  pub start : u64_at key 0 ≡ id_and_kind id 9
  pub len_and_hash : u32_at key 8 ≡ hash % 2 ^ 22 * 2 ^ 10 + (length name + 1)
  pub rest : drop 12 key ≡ name ++ 0 ∷ []

-- the key of an entry on a volume of these names: its name is hashed, save where only equal bytes make equal names
abbrev pub IsEntryKey : Names → ℕ → List ℕ → List ℕ → Type 0
IsEntryKey Exact id name key = IsNamedKey id 9 name key
IsEntryKey Normal id name key = IsHashedKey id (name_hash_of Normal name) name key
IsEntryKey Folded id name key = IsHashedKey id (name_hash_of Folded name) name key

-- the head of extended fields of which there is one, of so many bytes, of the system (Extended Fields, xf_blob_t and x_field_t, XF_SYSTEM_FIELD)
pub record IsOneField (kind size : ℕ) (part : List ℕ) : Type 0 where
  pub count : u16_at part 0 ≡ 1
  pub used : u16_at part 2 ≡ size
  pub type : slice_index part 4 ≡ kind
  pub flags : slice_index part 5 ≡ 0x20
  pub size_again : u16_at part 6 ≡ size
  pub len : length part ≡ 8 + size

-- the extended field of a sibling id (DREC_EXT_TYPE_SIBLING_ID)
pub record IsSiblingField (sibling : ℕ) (part : List ℕ) : Type 0 where
  pub head : IsOneField 1 8 part
  pub number : u64_at part 8 ≡ sibling

-- an entry's extended fields: its sibling id, where it has one
abbrev pub EndsInSibling : Option ℕ → List ℕ → Type 0
EndsInSibling None part = part ≡ []
EndsInSibling (Some sibling) part = IsSiblingField sibling part

-- the fixed part of an entry's value: the inode, no time, and its kind (File-System Objects, j_drec_val_t)
pub record IsEntryFront (file kind : ℕ) (value : List ℕ) : Type 0 where
  pub inode : u64_at value 0 ≡ file
  pub added : u64_at value 8 ≡ 0
  pub flags : u16_at value 16 ≡ kind

-- the value of an entry
pub record IsEntryValue (plan : EntryPlan) (value : List ℕ) : Type 0 where
  pub front : IsEntryFront plan.file plan.kind value
  pub end : EndsInSibling plan.sibling (drop 18 value)

-- the bytes of a stream's field: its size, the whole blocks of 4,096 bytes that hold it, and zeros (Data Streams, j_dstream_t)
pub record IsStreamBytes (size : ℕ) (bytes : List ℕ) : Type 0 where
  pub used : u64_at bytes 0 ≡ size
  pub allocated : u64_at bytes 8 ≡ min (div_ceil size 4096 * 4096) (2 ^ 64 - 1)
  pub rest : drop 16 bytes ≡ replicate 24 0

-- the extended field of a stream (INO_EXT_TYPE_DSTREAM)
pub record IsStreamField (size : ℕ) (part : List ℕ) : Type 0 where
  pub head : IsOneField 8 40 part
  pub stream : IsStreamBytes size (drop 8 part)

-- an inode's extended fields: its stream, where it has one
abbrev pub EndsInStream : Option ℕ → List ℕ → Type 0
EndsInStream None part = part ≡ []
EndsInStream (Some size) part = IsStreamField size part

-- the fixed part of an inode's value: what the plan says, with its own id as its private id; no times, no class of protection, no writes, no owner, no group and no size before compression (File-System Objects, j_inode_val_t)
pub record IsInodeFront (plan : InodePlan) (value : List ℕ) : Type 0 where
  pub parent : u64_at value 0 ≡ plan.parent
  pub private : u64_at value 8 ≡ plan.id
  pub created : u64_at value 16 ≡ 0
  pub modified : u64_at value 24 ≡ 0
  pub changed : u64_at value 32 ≡ 0
  pub accessed : u64_at value 40 ≡ 0
  pub flags : u64_at value 48 ≡ plan.flags
  pub links : u32_at value 56 ≡ plan.children_or_links
  pub protection : u32_at value 60 ≡ 0
  pub writes : u32_at value 64 ≡ 0
  pub bsd_flags : u32_at value 68 ≡ plan.bsd_flags
  pub owner : u32_at value 72 ≡ 0
  pub group : u32_at value 76 ≡ 0
  pub mode : u16_at value 80 ≡ plan.mode
  pub pad : u16_at value 82 ≡ 0
  pub uncompressed : u64_at value 84 ≡ 0

-- the value of an inode
pub record IsInodeValue (plan : InodePlan) (value : List ℕ) : Type 0 where
  pub front : IsInodeFront plan value
  pub end : EndsInStream plan.stream (drop 92 value)

-- a directory without entries, whose mode is that which all may read and its owner may write
abbrev pub directory_of : ℕ → ℕ → InodePlan
directory_of id parent = record { id = id; parent = parent; flags = 0; children_or_links = 0; bsd_flags = 0; mode = 0x41ed; stream = None }

-- a regular file with one name and without a stream, of a mode likewise
abbrev pub file_of : ℕ → ℕ → InodePlan
file_of id parent = record { id = id; parent = parent; flags = 0; children_or_links = 1; bsd_flags = 0; mode = 0x81a4; stream = None }

-- a value that is one number
pub record IsNumberValue (number : ℕ) (value : List ℕ) : Type 0 where
  pub len : length value ≡ 8
  pub is : u64_at value 0 ≡ number

-- the value of a range of blocks: its length in the low 60 bits with the kind New, no owner, and how many streams have it (Snapshot Metadata, j_phys_ext_val_t)
pub record IsRangeValue (blocks : ℕ) (count : ℤ) (value : List ℕ) : Type 0 where
  pub len : length value ≡ 20
  pub length_and_kind : u64_at value 0 ≡ id_and_kind blocks 1
  pub owner : u64_at value 8 ≡ 0
  pub streams : i32_at value 16 ≡ count

-- the value of a mapping of an object map: no flags, the object's length in bytes, and its block (Object Maps, omap_val_t)
pub record IsMapValue (bytes block : ℕ) (value : List ℕ) : Type 0 where
  pub len : length value ≡ 16
  pub flags : u32_at value 0 ≡ 0
  pub size : u32_at value 4 ≡ bytes
  pub paddr : u64_at value 8 ≡ block

-- the value of a sibling link: the directory that has the entry, and the name (Siblings, j_sibling_val_t)
pub record IsLinkValue (directory : ℕ) (name value : List ℕ) : Type 0 where
  pub parent : u64_at value 0 ≡ directory
  pub after : EndsInName 8 name value

-- the numbers of a snapshot's value: the block of its extent reference tree, that of its volume superblock, no times and no count of inodes, the type of a physical tree, and no flags (Snapshot Metadata, j_snap_metadata_val_t)
pub record IsSnapshotFront (extents superblock : ℕ) (value : List ℕ) : Type 0 where
  pub extents_root : u64_at value 0 ≡ extents
  pub volume : u64_at value 8 ≡ superblock
  pub created : u64_at value 16 ≡ 0
  pub changed : u64_at value 24 ≡ 0
  pub inum : u64_at value 32 ≡ 0
  pub extents_type : u32_at value 40 ≡ 0x40000002
  pub flags : u32_at value 44 ≡ 0

-- the value of a snapshot: its numbers and its name
pub record IsSnapshotValue (extents superblock : ℕ) (name value : List ℕ) : Type 0 where
  pub front : IsSnapshotFront extents superblock value
  pub after : EndsInName 48 name value

-- the value of an attribute that holds its own bytes (Extended Attributes, j_xattr_val_t, XATTR_DATA_EMBEDDED)
pub record IsEmbeddedValue (contents value : List ℕ) : Type 0 where
  pub flags : u16_at value 0 ≡ 2
  pub contents_len : u16_at value 2 ≡ length contents
  pub contents_after : drop 4 value ≡ contents

-- the value of an attribute whose bytes are a stream: its id, its size, and zeros (Extended Attributes, j_xattr_dstream_t, XATTR_DATA_STREAM)
pub record IsStreamedValue (stream size : ℕ) (value : List ℕ) : Type 0 where
  pub flags : u16_at value 0 ≡ 1
  pub contents_len : u16_at value 2 ≡ 48
  pub id : u64_at value 4 ≡ stream
  pub bytes : u64_at value 12 ≡ size
  pub rest : drop 20 value ≡ replicate 32 0

-- the value of a stream that one file has (Data Streams, j_dstream_id_val_t)
pub record IsStreamValue (value : List ℕ) : Type 0 where
  pub len : length value ≡ 4
  pub count : u32_at value 0 ≡ 1

-- the value of an extent of a stream: its length in bytes in the low 56 bits without flags, its first block, and no key (Data Streams, j_file_extent_val_t)
pub record IsExtentValue (bytes block : ℕ) (value : List ℕ) : Type 0 where
  pub len : length value ≡ 24
  pub length_and_flags : u64_at value 0 ≡ bytes % 2 ^ 56
  pub first_block : u64_at value 8 ≡ block
  pub key_id : u64_at value 16 ≡ 0

-- the id of a record by its key
abbrev pub id_of : List ℕ → ℕ
id_of key = u64_at key 0 % 2 ^ 60

-- the kind of a record by its key
abbrev pub kind_of : List ℕ → ℕ
kind_of key = u64_at key 0 / 2 ^ 60

-- the hash of an entry's name by its key, 0 where the key is too short for it
abbrev pub hash_in : List ℕ → ℕ
hash_in key = if nat_le 12 (length key) then u32_at key 8 / 2 ^ 10 else 0

-- the number of 64 bits after an id and a kind, 0 where the key is too short for it
abbrev pub second_in : List ℕ → ℕ
second_in key = if nat_le 16 (length key) then u64_at key 8 else 0

-- what a record's key adds to its id and its kind: the hash of an entry's name, the id of a sibling link or the logical address of an extent, otherwise 0
abbrev pub sub_of : List ℕ → ℕ
sub_of key = if kind_of key == 9 then hash_in key else (if kind_of key == 5 || kind_of key == 8 then second_in key else 0)

-- where a record stands in its tree by its key: by its id, its kind and what the key adds; a key that is too short for it stands first
unfoldable pub rank_of : List ℕ → ℕ × ℕ × ℕ
rank_of key = if nat_lt (length key) 8 then (0, 0, 0) else (id_of key, kind_of key, sub_of key)

-- the order of ranks: by the id, then by the kind, then by what the key adds
abbrev pub rank_cmp : ℕ × ℕ × ℕ → ℕ × ℕ × ℕ → Ordering
rank_cmp a b = ordering_then (ordering_then (nat_cmp a.0 b.0) (nat_cmp a.1 b.1)) (nat_cmp a.2 b.2)
