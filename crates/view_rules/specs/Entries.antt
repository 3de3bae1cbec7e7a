-- The rules on entries: each has its directory and its file, of the same kind.
use Rattle.std.specs.Prelude.{◌≡◌, ℕ, Bool, false, not, ◌&&◌, ◌==◌, List}
use Rattle.apfs_model.specs.Lists.{passes}
use Rattle.fs_record.specs.Inodes.{Inode, inode_kind}
use Rattle.fs_record.specs.Entries.{Entry}
use Rattle.fs_record.specs.Facts.{Fact, root_id}
use Rattle.view_rules.specs.Words.{IsClear, IsBroken}
use Rattle.view_rules.specs.Facts.{Facts, inode_at, has_inode, has_directory, does_count}
use Rattle.view_rules.specs.Names.{entry_place}

-- an entry that counts, in what is no directory
unfoldable pub lacks_parent : Facts → Fact Entry → Bool
lacks_parent facts e = does_count e && not (has_directory facts e.id)

-- each entry that counts stands in a directory
abbrev pub HasParents : Facts → Type 0
HasParents facts = IsClear (lacks_parent facts) facts.entries

-- NoParent: an entry's id isn't reserved, and no directory has it
abbrev pub IsNoParent : Facts → ℕ → List ℕ → Type 0
IsNoParent facts id name = IsBroken (lacks_parent facts) entry_place facts.entries (id, name)

-- an entry that counts, of a file without an inode
unfoldable pub lacks_inode : Facts → Fact Entry → Bool
lacks_inode facts e = does_count e && not (has_inode facts e.what.file_id)

-- the file of each entry that counts has an inode
abbrev pub HasFiles : Facts → Type 0
HasFiles facts = IsClear (lacks_inode facts) facts.entries

-- NoInode: an entry's id isn't reserved, and its file has no inode
abbrev pub IsNoInode : Facts → ℕ → List ℕ → Type 0
IsNoInode facts id name = IsBroken (lacks_inode facts) entry_place facts.entries (id, name)

-- the root is there, and it is a directory
unfoldable pub has_root : Facts → Bool
has_root facts = has_directory facts root_id

-- NoInode: the root isn't there, or it isn't a directory
abbrev pub IsNoRoot : Facts → ℕ → Type 0
IsNoRoot facts id = (id ≡ root_id) × (has_root facts ≡ false)

-- an entry that counts, of another kind than the inode of its file
unfoldable pub has_other_kind : Facts → Fact Entry → Bool
has_other_kind facts e = does_count e && passes (inode_at facts e.what.file_id) (λ (inode : Inode). not (inode_kind inode == e.what.kind))

-- each entry that counts has the kind of the inode of its file
abbrev pub HasKinds : Facts → Type 0
HasKinds facts = IsClear (has_other_kind facts) facts.entries

-- KindMismatch: an entry's id isn't reserved, and its kind isn't that of the inode of its file
abbrev pub IsKindMismatch : Facts → ℕ → List ℕ → Type 0
IsKindMismatch facts id name = IsBroken (has_other_kind facts) entry_place facts.entries (id, name)
