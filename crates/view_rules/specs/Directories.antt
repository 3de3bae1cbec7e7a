-- The rules on directories: each has one entry, that of its parent, and its parents lead to an id below 16.
use Rattle.std.specs.Prelude.{◌≡◌, ◌⊎◌, ℕ, ◌<◌, Bool, true, not, ◌&&◌, ◌==◌, nat_lt, nat_le, Option, Some, option_map}
use Rattle.apfs_model.specs.Lists.{In}
use Rattle.fs_record.specs.Inodes.{Inode}
use Rattle.fs_record.specs.Facts.{Fact, root_id, first_user_id}
use Rattle.view_rules.specs.Words.{IsClear, IsBroken}
use Rattle.view_rules.specs.Facts.{Facts, id_of_fact, inode_at, is_directory, entry_count, entry_count_in}

-- a directory of 16 or more
abbrev pub is_user_directory : Fact Inode → Bool
is_user_directory f = is_directory f.what && nat_le first_user_id f.id

-- such a directory that hasn't exactly one entry, in the directory of its parent id
unfoldable pub is_misnamed : Facts → Fact Inode → Bool
is_misnamed facts f = is_user_directory f && not ((entry_count facts f.id == 1) && (entry_count_in facts f.id f.what.parent == 1))

-- the root has an entry
unfoldable pub is_root_named : Facts → Bool
is_root_named facts = nat_lt 0 (entry_count facts root_id)

-- each of them has exactly one entry, in the directory of its parent id
abbrev pub HasDirNames : Facts → Type 0
HasDirNames facts = IsClear (is_misnamed facts) facts.inodes

-- DirNames: a directory of 16 or more hasn't exactly one entry, that of its parent id; or the root has an entry
abbrev pub IsDirNames : Facts → ℕ → Type 0
IsDirNames facts id = IsBroken (is_misnamed facts) id_of_fact facts.inodes id ⊎ ((id ≡ root_id) × (is_root_named facts ≡ true))

-- the parent id that the inode of an id gives, whatever its kind
abbrev pub parent_at : Facts → ℕ → Option ℕ
parent_at facts id = option_map (λ (inode : Inode). inode.parent) (inode_at facts id)

-- parent ids lead from an id to one below 16
pub data Leads (parent : ℕ → Option ℕ) : ℕ → Type 0 where
  low : (id : ℕ) → id < first_user_id → Leads parent id
  up : (id above : ℕ) → parent id ≡ Some above → Leads parent above → Leads parent id

-- they do from each directory of 16 or more
abbrev pub HasWays : Facts → Type 0
HasWays facts = (f : Fact Inode) → In f facts.inodes → is_user_directory f ≡ true → Leads (parent_at facts) f.id

-- Unreached: from a directory of 16 or more parent ids never lead to an id below 16
pub record IsUnreached (facts : Facts) (id : ℕ) : Type 0 where
  pub item : Fact Inode
  pub listed : In item facts.inodes
  pub same : item.id ≡ id
  pub directory : is_user_directory item ≡ true
  pub lost : Leads (parent_at facts) item.id → ⊥
