-- The GUID partition table of a disk. Its checksums, its copy at the end of the disk and the protective first sector aren't looked at.
use Rattle.std.specs.Prelude.{ℕ, ◌+◌, ◌*◌, Bool, ◌&&◌, nat_le, List, [], ◌∷◌, length, bytes_eq, Option, None, Some, codes, if◌then◌else◌}
use Rattle.std.specs.List.{find, range_with_len}
use Rattle.apfs_model.specs.Bytes.{u32_at, u64_at, part_at}
use Rattle.apfs_model.specs.Blocks.{is_multiple}

-- the eight bytes with which a header begins
abbrev pub header_mark : List ℕ
header_mark = codes "EFI PART"

-- how many bytes a header has
abbrev pub header_len : ℕ
header_len = 92

-- the type of a partition that holds a container, 7C3457EF-0000-11AA-AA11-00306543ECAC, as it is stored
abbrev pub container_type : List ℕ
container_type = 0xef ∷ 0x57 ∷ 0x34 ∷ 0x7c ∷ 0x00 ∷ 0x00 ∷ 0xaa ∷ 0x11 ∷ 0xaa ∷ 0x11 ∷ 0x00 ∷ 0x30 ∷ 0x65 ∷ 0x43 ∷ 0xec ∷ 0xac ∷ []

-- so many bytes from a place on lie in a disk
abbrev pub lies_in : List ℕ → ℕ → ℕ → Bool
lies_in disk at len = nat_le (at + len) (length disk)

-- a header stands at a place
unfoldable pub has_header : List ℕ → ℕ → Bool
has_header disk at = lies_in disk at header_len && bytes_eq (part_at disk at 8) header_mark

-- the size of a sector in bytes, which is the place of the header: 512, otherwise 4,096, where one stands there
unfoldable pub sector_of : List ℕ → Option ℕ
sector_of disk =
    if has_header disk 512 then Some 512 else
    if has_header disk 4096 then Some 4096 else None

-- the byte at which the entries begin, by the sector that the header gives (72)
abbrev pub entries_at : List ℕ → ℕ → ℕ
entries_at disk sector = u64_at disk (sector + 72) * sector

-- how many entries there are (80)
abbrev pub entry_count : List ℕ → ℕ → ℕ
entry_count disk sector = u32_at disk (sector + 80)

-- how many bytes an entry has (84)
abbrev pub entry_size : List ℕ → ℕ → ℕ
entry_size disk sector = u32_at disk (sector + 84)

-- there are 1 to 1,024 entries
abbrev pub is_entry_count : ℕ → Bool
is_entry_count n = nat_le 1 n && nat_le n 1024

-- an entry has 128 to 4,096 bytes, a multiple of 8
abbrev pub is_entry_size : ℕ → Bool
is_entry_size n = is_multiple n 8 && (nat_le 128 n && nat_le n 4096)

-- the header's numbers are those of a table, whose entries lie in the disk
unfoldable pub is_table : List ℕ → ℕ → Bool
is_table disk sector =
    is_entry_count (entry_count disk sector)
    && (is_entry_size (entry_size disk sector) && lies_in disk (entries_at disk sector) (entry_count disk sector * entry_size disk sector))

-- the byte at which entry i begins
abbrev pub entry_at : List ℕ → ℕ → ℕ → ℕ
entry_at disk sector i = entries_at disk sector + i * entry_size disk sector

-- entry i has the type (0)
abbrev pub is_container_entry : List ℕ → ℕ → ℕ → Bool
is_container_entry disk sector i = bytes_eq (part_at disk (entry_at disk sector i) 16) container_type

-- the number of the first entry of the type
unfoldable pub container_entry : List ℕ → ℕ → Option ℕ
container_entry disk sector = find (is_container_entry disk sector) (range_with_len 0 (entry_count disk sector))

-- the first sector of entry i's partition (32)
abbrev pub first_sector : List ℕ → ℕ → ℕ → ℕ
first_sector disk sector i = u64_at disk (entry_at disk sector i + 32)

-- its last sector, which belongs to it (40)
abbrev pub last_sector : List ℕ → ℕ → ℕ → ℕ
last_sector disk sector i = u64_at disk (entry_at disk sector i + 40)
