-- The header of an object (Objects, obj_phys_t).
use Rattle.std.specs.Prelude.{ℕ, ◌%◌, ◌^◌, Bool, List, bit_and}
use Rattle.apfs_model.specs.Bytes.{u32_at, u64_at, has_flag}

-- the stored sum (o_cksum)
unfoldable pub sum_field : List ℕ → ℕ
sum_field bytes = u64_at bytes 0

-- the object's id (o_oid)
unfoldable pub oid_of : List ℕ → ℕ
oid_of bytes = u64_at bytes 8

-- the transaction in which the object was last written (o_xid)
unfoldable pub xid_of : List ℕ → ℕ
xid_of bytes = u64_at bytes 16

-- the type: the kind in the low 16 bits, flags in the others (o_type)
unfoldable pub type_of : List ℕ → ℕ
type_of bytes = u32_at bytes 24

-- the subtype (o_subtype)
unfoldable pub subtype_of : List ℕ → ℕ
subtype_of bytes = u32_at bytes 28

-- the kind in a type (Objects, OBJECT_TYPE_MASK)
abbrev pub kind_in : ℕ → ℕ
kind_in type = type % 2 ^ 16

abbrev pub kind_of : List ℕ → ℕ
kind_of bytes = kind_in (type_of bytes)

-- the flags in a type (Objects, OBJECT_TYPE_FLAGS_MASK)
abbrev pub flags_in : ℕ → ℕ
flags_in type = bit_and type 0xffff0000

abbrev pub flags_of : List ℕ → ℕ
flags_of bytes = flags_in (type_of bytes)

-- the flags of a type (Objects, Object Type Flags)
abbrev pub ephemeral_flag : ℕ
ephemeral_flag = 0x80000000

abbrev pub physical_flag : ℕ
physical_flag = 0x40000000

abbrev pub no_header_flag : ℕ
no_header_flag = 0x20000000

abbrev pub encrypted_flag : ℕ
encrypted_flag = 0x10000000

abbrev pub has_no_header : List ℕ → Bool
has_no_header bytes = has_flag (flags_of bytes) no_header_flag

abbrev pub is_encrypted : List ℕ → Bool
is_encrypted bytes = has_flag (flags_of bytes) encrypted_flag

-- the kinds of objects (Objects, Object Types)
abbrev pub container_kind : ℕ
container_kind = 1

abbrev pub root_kind : ℕ
root_kind = 2

abbrev pub node_kind : ℕ
node_kind = 3

abbrev pub space_kind : ℕ
space_kind = 5

abbrev pub cab_kind : ℕ
cab_kind = 6

abbrev pub cib_kind : ℕ
cib_kind = 7

abbrev pub queue_kind : ℕ
queue_kind = 9

abbrev pub map_kind : ℕ
map_kind = 0xb

abbrev pub checkpoint_map_kind : ℕ
checkpoint_map_kind = 0xc

abbrev pub volume_kind : ℕ
volume_kind = 0xd

abbrev pub fs_tree_kind : ℕ
fs_tree_kind = 0xe

abbrev pub extents_kind : ℕ
extents_kind = 0xf

abbrev pub snapshots_kind : ℕ
snapshots_kind = 0x10

abbrev pub reaper_kind : ℕ
reaper_kind = 0x11

abbrev pub reap_list_kind : ℕ
reap_list_kind = 0x12

abbrev pub map_snapshots_kind : ℕ
map_snapshots_kind = 0x13

abbrev pub jumpstart_kind : ℕ
jumpstart_kind = 0x14

abbrev pub extended_metadata_kind : ℕ
extended_metadata_kind = 0x1d
