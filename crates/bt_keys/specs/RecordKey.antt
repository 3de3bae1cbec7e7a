-- Keys of records: an id, a kind, and what the kind adds (File-System Objects, j_key_t).
use Rattle.std.specs.Prelude.{ℕ, ◌+◌, ◌/◌, ◌%◌, ◌^◌, Bool, true, ◌&&◌, ◌||◌, ◌==◌, nat_le, List, length, if◌then◌else◌}
use Rattle.apfs_model.specs.Bytes.{u16_at, u32_at, u64_at, part_at}

-- the object that a record belongs to (OBJ_ID_MASK)
unfoldable pub id_of : List ℕ → ℕ
id_of key = u64_at key 0 % 2 ^ 60

-- the record's kind (OBJ_TYPE_MASK)
unfoldable pub record_kind_of : List ℕ → ℕ
record_kind_of key = u64_at key 0 / 2 ^ 60

-- the kinds of records (j_obj_types)
abbrev pub snapshot_record : ℕ
snapshot_record = 1

abbrev pub extent_record : ℕ
extent_record = 2

abbrev pub inode_record : ℕ
inode_record = 3

abbrev pub attribute_record : ℕ
attribute_record = 4

abbrev pub sibling_link_record : ℕ
sibling_link_record = 5

abbrev pub file_extent_record : ℕ
file_extent_record = 8

abbrev pub entry_record : ℕ
entry_record = 9

abbrev pub snapshot_name_record : ℕ
snapshot_name_record = 11

abbrev pub sibling_map_record : ℕ
sibling_map_record = 12

-- the number after the id and the kind: a sibling's id, or a logical address
unfoldable pub second_of : List ℕ → ℕ
second_of key = u64_at key 8

-- an entry's word of a name's length and hash (j_drec_hashed_key_t)
unfoldable pub len_and_hash_of : List ℕ → ℕ
len_and_hash_of key = u32_at key 8

-- the length of a hashed name, its final zero counted (J_DREC_LEN_MASK)
abbrev pub hashed_name_len : List ℕ → ℕ
hashed_name_len key = len_and_hash_of key % 2 ^ 10

-- the stored hash of a name (J_DREC_HASH_MASK)
abbrev pub hash_of : List ℕ → ℕ
hash_of key = len_and_hash_of key / 2 ^ 10

-- the length of another name, its final zero counted (j_drec_key_t, j_xattr_key_t, j_snap_name_key_t)
unfoldable pub plain_name_len : List ℕ → ℕ
plain_name_len key = u16_at key 8

-- the name in an entry's key under hashed names, its final zero among its bytes
unfoldable pub hashed_name_of : List ℕ → List ℕ
hashed_name_of key = part_at key 12 (hashed_name_len key)

-- the name in another key
unfoldable pub plain_name_of : List ℕ → List ℕ
plain_name_of key = part_at key 10 (plain_name_len key)

-- a hashed name lies inside its key
abbrev pub has_hashed_name : List ℕ → Bool
has_hashed_name key = nat_le 12 (length key) && nat_le (12 + hashed_name_len key) (length key)

-- another name lies inside its key
abbrev pub has_plain_name : List ℕ → Bool
has_plain_name key = nat_le 10 (length key) && nat_le (10 + plain_name_len key) (length key)

-- a key of a kind with a second number
abbrev pub has_second : ℕ → Bool
has_second kind = (kind == sibling_link_record) || (kind == file_extent_record)

-- what a kind adds lies inside the key: a second number, or a name, which is hashed or not for an entry
abbrev pub has_rest : Bool → ℕ → List ℕ → Bool
has_rest hashed kind key =
    if has_second kind then nat_le 16 (length key) else
    if kind == entry_record then (if hashed then has_hashed_name key else has_plain_name key) else
    if kind == attribute_record then has_plain_name key else true

-- a record key of a file-system tree is whole
unfoldable pub is_fs_key : Bool → List ℕ → Bool
is_fs_key hashed key = nat_le 8 (length key) && has_rest hashed (record_kind_of key) key

-- a record key of a snapshot metadata tree is whole: a snapshot's, or a snapshot's name
unfoldable pub is_snap_key : List ℕ → Bool
is_snap_key key =
    nat_le 8 (length key)
    && ((record_kind_of key == snapshot_record) || ((record_kind_of key == snapshot_name_record) && has_plain_name key))

-- a record key of an extent reference tree is whole
unfoldable pub is_ext_key : List ℕ → Bool
is_ext_key key = nat_le 8 (length key) && (record_kind_of key == extent_record)

-- what orders the records of one id and kind: a sibling's id, a logical address, or a name's hash
unfoldable pub sub_of : Bool → List ℕ → ℕ
sub_of hashed key =
    if has_second (record_kind_of key) then second_of key else
    if hashed && (record_kind_of key == entry_record) then hash_of key else 0

-- the kinds of which an id has one record for each sub: inodes, sibling links, extents and sibling maps
abbrev pub is_strict_kind : ℕ → Bool
is_strict_kind kind = (kind == inode_record) || ((kind == sibling_link_record) || ((kind == file_extent_record) || (kind == sibling_map_record)))
