-- The order of facts: each kind by the ids of its records, as they stand in a tree in order.
use Rattle.std.specs.Prelude.{◌≡◌, ℕ, ◌+◌, ◌*◌, ◌%◌, ◌^◌, ◌<◌, ◌&&◌, Bool, true, List, length, slice_index_or, nat_lt, nat_le}
use Rattle.fs_record.specs.Attributes.{Attribute}
use Rattle.fs_record.specs.Entries.{Entry}
use Rattle.fs_record.specs.declared.extents.FileExt.{FileExt}
use Rattle.fs_record.specs.Facts.{Fact}
use Rattle.fs_record.specs.Inodes.{Inode}
use Rattle.fs_record.specs.Siblings.{Link}
use Rattle.view_rules.specs.Facts.{Facts}

-- the directory of an entry and its hash as one number of 64 bits
abbrev pub hash_rank : Fact Entry → ℕ
hash_rank e = (e.id * 2 ^ 22 % 2 ^ 64 + e.what.hash) % 2 ^ 64

-- each item may stand before the one after it
abbrev pub IsChain : {X : Type 0} → (X → X → Bool) → List X → Type 0
IsChain {X} follows xs = (k : ℕ) (d : X) → k + 1 < length xs → follows (slice_index_or xs k d) (slice_index_or xs (k + 1) d) ≡ true

-- an id has one inode
abbrev pub inode_follows : Fact Inode → Fact Inode → Bool
inode_follows f next = nat_lt f.id next.id

-- entries stand by their directories, and by these and their hashes
abbrev pub entry_follows : Fact Entry → Fact Entry → Bool
entry_follows e next = nat_le e.id next.id && nat_le (hash_rank e) (hash_rank next)

abbrev pub attribute_follows : Fact Attribute → Fact Attribute → Bool
attribute_follows a next = nat_le a.id next.id

-- links stand by their files
abbrev pub link_follows : Fact Link → Fact Link → Bool
link_follows l next = nat_le l.what.file next.what.file

-- maps stand by their siblings
abbrev pub map_follows : Fact ℕ → Fact ℕ → Bool
map_follows m next = nat_le m.id next.id

-- extents stand by their streams
abbrev pub extent_follows : Fact FileExt → Fact FileExt → Bool
extent_follows f next = nat_le f.id next.id

-- the facts of each kind are in order
pub record AreInOrder (facts : Facts) : Type 0 where
  pub inodes : IsChain inode_follows facts.inodes
  pub entries : IsChain entry_follows facts.entries
  pub attributes : IsChain attribute_follows facts.attributes
  pub links : IsChain link_follows facts.links
  pub siblings : IsChain map_follows facts.siblings
  pub extents : IsChain extent_follows facts.extents
