-- The parents of directories alone.
use Rattle.std.specs.Prelude.{ℕ, suc, ◌<◌, List, length, slice_index_or}
use Rattle.fs_record.specs.Inodes.{Inode}
use Rattle.fs_record.specs.Facts.{Fact}

-- each inode has a greater id than the one before it
abbrev pub Rise : List (Fact Inode) → Type 0
Rise inodes = (k : ℕ) (d : Fact Inode) → suc k < length inodes → (slice_index_or inodes k d).id < (slice_index_or inodes (suc k) d).id
