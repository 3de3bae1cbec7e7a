-- The partition of a disk that holds a container, or the first of four faults for which there is none.
use Rattle.std.specs.Prelude.{◌≡◌, ℕ, ◌+◌, ◌-◌, ◌*◌, Bool, true, false, ◌&&◌, nat_le, List, Option, None, Some, Result, Ok, Err, if◌then◌else◌}
use Rattle.apfs_model.specs.Bytes.{part_at}
use Rattle.img_gpt.specs.Table.{lies_in, sector_of, is_table, container_entry, first_sector, last_sector}
use Rattle.img_gpt.specs.declared.part.Part.{Part}
use Rattle.img_gpt.specs.declared.part.GptStop.{GptStop}
use Rattle.img_gpt.specs.declared.part.GptStop.TheVariants.{NoTable, BadTable, NoPartition, PartOutside}

-- the bytes of entry i's partition: from its first sector on, with its last sector
abbrev pub part_of : List ℕ → ℕ → ℕ → Part
part_of disk sector i = record {
  start = first_sector disk sector i * sector;
  length = (last_sector disk sector i + 1 - first_sector disk sector i) * sector;
}

-- a partition doesn't end before it begins, and lies in the disk
unfoldable pub is_placed : List ℕ → ℕ → ℕ → Bool
is_placed disk sector i =
    nat_le (first_sector disk sector i) (last_sector disk sector i) && lies_in disk (part_of disk sector i).start (part_of disk sector i).length

-- the partition of the first entry of the type, in a table
abbrev pub placed_by : List ℕ → ℕ → Option ℕ → Result Part GptStop
placed_by disk sector None = Err NoPartition
placed_by disk sector (Some i) = if is_placed disk sector i then Ok (part_of disk sector i) else Err (PartOutside i)

-- the partition, where a header stands at a place
abbrev pub found_by : List ℕ → Option ℕ → Result Part GptStop
found_by disk None = Err NoTable
found_by disk (Some sector) = if is_table disk sector then placed_by disk sector (container_entry disk sector) else Err BadTable

-- where the partition lies, or the first fault for which there is none, tested in the order NoTable, BadTable, NoPartition, PartOutside
unfoldable pub found_part : List ℕ → Result Part GptStop
found_part disk = found_by disk (sector_of disk)

-- the bytes of a part of a disk
abbrev pub bytes_in : List ℕ → Part → List ℕ
bytes_in disk part = part_at disk part.start part.length

-- the partition's bytes, which are an image
pub record IsPartition (disk image : List ℕ) : Type 0 where
  pub part : Part
  pub found : found_part disk ≡ Ok part
  pub same : image ≡ bytes_in disk part

-- NoTable: at neither place a header stands
abbrev pub HasNoTable : List ℕ → Type 0
HasNoTable disk = sector_of disk ≡ None

-- BadTable: a header stands there, and its numbers are no table's, or its entries don't lie in the disk
abbrev pub HasBadTable : List ℕ → Type 0
HasBadTable disk = (sector : ℕ) × (sector_of disk ≡ Some sector) × (is_table disk sector ≡ false)

-- a disk has a table with sectors of a size
pub record HasTable (disk : List ℕ) (sector : ℕ) : Type 0 where
  pub header : sector_of disk ≡ Some sector
  pub right : is_table disk sector ≡ true

-- NoPartition: no entry of the table has the type
abbrev pub HasNoPartition : List ℕ → Type 0
HasNoPartition disk = (sector : ℕ) × HasTable disk sector × (container_entry disk sector ≡ None)

-- PartOutside: entry i is the first of the type, and its partition ends before it begins or doesn't lie in the disk
abbrev pub HasPartOutside : List ℕ → ℕ → Type 0
HasPartOutside disk i = (sector : ℕ) × HasTable disk sector × (container_entry disk sector ≡ Some i) × (is_placed disk sector i ≡ false)
