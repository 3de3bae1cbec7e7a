-- The kind of each inode, and the directory that it names as its parent.
use Rattle.std.specs.Prelude.{◌≡◌, ℕ, Bool, List, ◌==◌, Option, option_map, slice_index_or}
use Rattle.std.specs.List.{find, position}
use Rattle.apfs_model.specs.Lists.{passes}
use Rattle.fs_record.specs.Inodes.{Inode, inode_kind}
use Rattle.fs_record.specs.Facts.{Fact, first_for}
use Rattle.rule_index.specs.declared.kin.Kin.{Kin}

-- the kind of an inode, and the directory that it names as its parent
abbrev pub kin_of : Inode → Kin
kin_of inode = record { kind = inode_kind inode; parent = inode.parent }

-- those of an inode, after its id
abbrev pub with_id : Fact Inode → ℕ × Kin
with_id f = (f.id, kin_of f.what)

-- those that a list has after an id, the first where there are more
abbrev pub kin_in : List (ℕ × Kin) → ℕ → Option Kin
kin_in kins q = option_map (λ (k : ℕ × Kin). k.1) (find (λ (k : ℕ × Kin). k.0 == q) kins)

-- the place of those of an id in a list, the first where there are more
abbrev pub kin_place : List (ℕ × Kin) → ℕ → Option ℕ
kin_place kins q = position (λ (k : ℕ × Kin). k.0 == q) kins

-- the directory that the inode at a place in a list names as its parent
abbrev pub parent_at : List (ℕ × Kin) → ℕ → ℕ
parent_at kins at = (slice_index_or kins at (0, record { kind = 0; parent = 0 })).1.parent

-- a list has an inode of an id that is of a kind
abbrev pub has_kind : List (ℕ × Kin) → ℕ → ℕ → Bool
has_kind kins q kind = passes (kin_in kins q) (λ (k : Kin). k.kind == kind)

-- a list has those of the inode of each id, the first where there are more
abbrev pub HasKins : List (Fact Inode) → List (ℕ × Kin) → Type 0
HasKins inodes kins = (q : ℕ) → kin_in kins q ≡ option_map kin_of (first_for q inodes)
