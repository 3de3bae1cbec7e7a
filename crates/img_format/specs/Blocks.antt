-- The blocks of a new container that aren't all zeros.
use Rattle.std.specs.Prelude.{ℕ, ◌+◌, ◌-◌, ◌*◌, ◌^◌, true, false, List, [], ◌∷◌, ◌++◌, length, codes}
use Rattle.img_format.specs.declared.spec.Spec.{Spec}
use Rattle.img_format.specs.Tables.{Field, num, laid, object, plain}
use Rattle.img_format.specs.Nodes.{Entry, root}

-- the superblock, in blocks 0 and 2
unfoldable pub super : Spec → List ℕ
super spec = object 1 0x80000001 0 (
    (32, num 4 0x4253584e)
    ∷ (36, num 4 4096)
    ∷ (40, num 8 spec.blocks)
    ∷ (64, num 8 2)
    ∷ (72, spec.container)
    ∷ (88, num 8 1031)
    ∷ (96, num 8 2)
    ∷ (104, num 4 8)
    ∷ (108, num 4 16)
    ∷ (112, num 8 1)
    ∷ (120, num 8 9)
    ∷ (128, num 4 2)
    ∷ (132, num 4 4)
    ∷ (136, num 4 0)
    ∷ (140, num 4 2)
    ∷ (144, num 4 0)
    ∷ (148, num 4 4)
    ∷ (152, num 8 1024)
    ∷ (160, num 8 25)
    ∷ (168, num 8 1025)
    ∷ (184, num 8 1026)
    ∷ [])

-- a mapping of one block at a place of the checkpoint map: its type, its subtype, its size, its id and its block
abbrev pub mapping : ℕ → ℕ → ℕ → ℕ → ℕ → List Field
mapping at type subtype oid block =
    (at, num 4 type) ∷ (at + 4, num 4 subtype) ∷ (at + 8, num 4 4096) ∷ (at + 24, num 8 oid) ∷ (at + 32, num 8 block) ∷ []

-- the checkpoint map, in block 1
unfoldable pub checkpoint_map : List ℕ
checkpoint_map = object 1 0x4000000c 0 (
    (36, num 4 4)
    ∷ (mapping 40 0x80000005 0 1024 9
    ++ (mapping 80 0x80000011 0 1025 10
    ++ (mapping 120 0x80000002 9 1029 11
    ++ mapping 160 0x80000002 9 1030 12))))

-- the space manager, in block 9
unfoldable pub space_manager : Spec → List ℕ
space_manager spec = object 1024 0x80000005 0 (
    (32, num 4 4096)
    ∷ (36, num 4 32768)
    ∷ (40, num 4 126)
    ∷ (44, num 4 507)
    ∷ (48, num 8 spec.blocks)
    ∷ (56, num 8 1)
    ∷ (64, num 4 1)
    ∷ (68, num 4 0)
    ∷ (72, num 8 (spec.blocks - 57))
    ∷ (80, num 4 2528)
    ∷ (152, num 8 8)
    ∷ (160, num 4 1)
    ∷ (164, num 4 16)
    ∷ (168, num 8 27)
    ∷ (176, num 8 43)
    ∷ (208, num 8 1029)
    ∷ (248, num 8 1030)
    ∷ (328, num 4 2520)
    ∷ (2520, num 2 0)
    ∷ (2528, num 8 43)
    ∷ [])

-- the reaper, in block 10
unfoldable pub reaper : List ℕ
reaper = object 1025 0x80000011 0 []

-- the roots of the two free queues, in blocks 11 and 12
unfoldable pub pool_queue : List ℕ
pool_queue = root 1029 0x80000000 9 true []

unfoldable pub main_queue : List ℕ
main_queue = root 1030 0x80000000 9 true []

-- the object map in a block, with the root of its tree in another
unfoldable pub object_map : ℕ → ℕ → List ℕ
object_map block tree = object block 0x4000000b 0 (
    (40, num 4 0x40000002)
    ∷ (44, num 4 0x40000002)
    ∷ (48, num 8 tree)
    ∷ [])

-- the record of an object map: an id, at transaction 1, is a block
abbrev pub map_entry : ℕ → ℕ → Entry
map_entry oid block = (num 8 oid ++ num 8 1, num 4 0 ++ num 4 4096 ++ num 8 block)

-- the root of its tree
unfoldable pub map_tree : ℕ → ℕ → ℕ → List ℕ
map_tree block oid at = root block 0x40000000 0xb true (map_entry oid at ∷ [])

-- the bitmap of the pool, in block 27, the first of its ring
unfoldable pub pool_bitmap : List ℕ
pool_bitmap = plain ((0, 0x03 ∷ []) ∷ [])

-- the chunk-info block, in block 43
unfoldable pub chunk_info : Spec → List ℕ
chunk_info spec = object 43 0x40000007 0 (
    (32, num 4 0)
    ∷ (36, num 4 1)
    ∷ (48, num 8 0)
    ∷ (56, num 4 spec.blocks)
    ∷ (60, num 4 (spec.blocks - 57))
    ∷ (64, num 8 44)
    ∷ [])

-- the bitmap of the chunk, in block 44
unfoldable pub chunk_bitmap : List ℕ
chunk_bitmap = plain ((0, 0xff ∷ 0xff ∷ 0xff ∷ 0xff ∷ 0xff ∷ 0xff ∷ 0xff ∷ 0x01 ∷ []) ∷ [])

-- the superblock of the volume, in block 51
unfoldable pub volume : Spec → List ℕ
volume spec = object 1026 0xd 0 (
    (32, num 4 0x42535041)
    ∷ (56, num 8 1)
    ∷ (116, num 4 2)
    ∷ (120, num 4 0x40000002)
    ∷ (124, num 4 0x40000002)
    ∷ (128, num 8 52)
    ∷ (136, num 8 1028)
    ∷ (144, num 8 55)
    ∷ (152, num 8 56)
    ∷ (240, spec.volume)
    ∷ (264, num 8 1)
    ∷ (704, spec.name)
    ∷ [])

-- the first bytes of the key of a record of an id and a kind
abbrev pub record_key : ℕ → ℕ → List ℕ
record_key id kind = num 8 (id + kind * 2 ^ 60)

-- an entry of directory 1, for a directory: its name ends with a zero, which counts
abbrev pub dir_entry : List ℕ → ℕ → ℕ → Entry
dir_entry name hash file = (record_key 1 9 ++ num 4 (length name + 1 + hash * 2 ^ 10) ++ name ++ 0 ∷ [], num 8 file ++ num 8 0 ++ num 2 4)

-- an inode of an empty directory, 92 bytes
abbrev pub directory : ℕ → Entry
directory id = (record_key id 3, laid 92 0 ((0, num 8 1) ∷ (8, num 8 id) ∷ (80, num 2 0x41ed) ∷ []))

-- the hashes of the two names
abbrev pub private_hash : ℕ
private_hash = 0x2b29a3

abbrev pub root_hash : ℕ
root_hash = 0x2d9c79

-- the records of the volume's files: the entries of the private directory and of the root by their hashes, and the inodes of both
abbrev pub file_entries : List Entry
file_entries = dir_entry (codes "private-dir") private_hash 3 ∷ dir_entry (codes "root") root_hash 2 ∷ directory 2 ∷ directory 3 ∷ []

-- the root of the volume's files, in block 54
unfoldable pub files : List ℕ
files = root 1028 0 0xe false file_entries

-- the roots of the extent references and of the snapshot metadata, in blocks 55 and 56
unfoldable pub extents : List ℕ
extents = root 55 0x40000000 0xf false []

unfoldable pub snapshots : List ℕ
snapshots = root 56 0x40000000 0x10 false []
