-- A folder in memory, as contracts see it.
use Rattle.std.specs.Prelude.{[], ◌∷◌, ◌++◌, false, if◌then◌else◌, ◌≡◌, ◌⊎◌, ℕ, ◌+◌, ◌<◌, Bool, List, length, sum_by, slice_get, Some}
use Rattle.apfs_model.specs.Counts.{one_more}
use Rattle.blk_folder.specs.Items.{Item, Held, Directory, File, with_more}
use Rattle.blk_folder.specs.Items.{byte_count}

-- a folder with room for so many items and so many bytes of paths and pieces, which fails at the calls of these numbers, counted from 1
pub record MemoryFolder : Type 0 where
  pub contents : List Item
  pub items : ℕ
  pub room : ℕ
  pub fails : List ℕ
  pub calls : ℕ
  pub faults : ℕ
  pub writing : Bool

-- a directory
abbrev pub IsDirectory : Held → Type 0
IsDirectory held = held ≡ Directory

-- a file of these bytes
abbrev pub HasBytes : Held → List ℕ → Type 0
HasBytes held bytes = held ≡ File bytes

-- how many bytes an item takes: those of its path, and its own
abbrev pub taken_by : Item → ℕ
taken_by item = length item.path + byte_count item.held

-- how many bytes are taken
abbrev pub taken : List Item → ℕ
taken items = sum_by taken_by items

-- so many bytes don't fit
abbrev pub LacksRoom : MemoryFolder → ℕ → Type 0
LacksRoom folder bytes = folder.room < taken folder.contents + bytes

-- an item with a path of so many bytes doesn't fit
abbrev pub LacksPlace : MemoryFolder → ℕ → Type 0
LacksPlace folder bytes = (folder.items < length folder.contents + 1) ⊎ LacksRoom folder bytes

-- a fact of item i
abbrev pub IsAt : List Item → ℕ → (Item → Type 0) → Type 0
IsAt items i P = (item : Item) → slice_get items i ≡ Some item → P item

-- ---- what the calls leave

-- an item without bytes
abbrev pub empty_at : List ℕ → Bool → Item
empty_at path is_file = record { path = path; held = if is_file then File [] else Directory }

-- a call was refused
abbrev pub refused : MemoryFolder → MemoryFolder
refused folder = record folder { calls = one_more folder.calls; faults = one_more folder.faults; writing = false }

-- a call put an item without bytes
abbrev pub extended : MemoryFolder → List ℕ → Bool → MemoryFolder
extended folder path is_file = record folder { contents = folder.contents ++ empty_at path is_file ∷ []; calls = one_more folder.calls; writing = is_file }

-- the last item has a piece more
abbrev pub lengthened : MemoryFolder → List ℕ → MemoryFolder
lengthened folder piece = record folder { contents = with_more piece folder.contents }
