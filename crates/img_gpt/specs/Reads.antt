-- What the steps of the search keep of the table.
use Rattle.std.specs.Prelude.{◌≡◌, ◌≤◌, ◌<◌, ℕ, ◌+◌, ◌*◌, ◌^◌, List}
use Rattle.img_gpt.specs.Table.{entries_at, entry_count, entry_size}
use Rattle.img_gpt.specs.declared.table.Table.{Table}

-- the entries of a table lie in a disk of a size, and each has 128 bytes or more
pub record IsWithin (size : ℕ) (table : Table) : Type 0 where
  pub inside : table.entries + table.count * table.size ≤ size
  pub fits : table.entries + table.count * table.size < 2 ^ 64
  pub long : 128 ≤ table.size
  pub some_sector : 1 ≤ table.sector

-- the numbers of a table are those of the header of a disk
pub record IsTableOf (disk : List ℕ) (table : Table) : Type 0 where
  pub place : table.entries ≡ entries_at disk table.sector
  pub many : table.count ≡ entry_count disk table.sector
  pub long : table.size ≡ entry_size disk table.sector
