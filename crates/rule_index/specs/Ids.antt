-- Counts of facts by a number.
use Rattle.std.specs.Prelude.{◌≡◌, ℕ, Bool, List, count_by, ◌==◌, ◌&&◌, Option, None, Some, bytes_eq, if◌then◌else◌}
use Rattle.apfs_model.specs.Lists.{passes}
use Rattle.fs_record.specs.Entries.{Entry}
use Rattle.fs_record.specs.Attributes.{Attribute}
use Rattle.fs_record.specs.Facts.{Fact}
use Rattle.view_rules.specs.Facts.{is_system_id}
use Rattle.view_rules.specs.Inodes.{target_name, holds_target}

-- an item has a number
abbrev pub has_id : {T : Type 0} → (T → Option ℕ) → ℕ → T → Bool
has_id id q x = passes (id x) (λ n. n == q)

-- how often a number stands in a list
unfoldable pub count_in : List ℕ → ℕ → ℕ
count_in ids q = count_by (λ n. n == q) ids

-- a list has each number as often as some items have it
abbrev pub CountsIds : {T : Type 0} → (T → Option ℕ) → List T → List ℕ → Type 0
CountsIds id items ids = (q : ℕ) → count_in ids q ≡ count_by (has_id id q) items

-- the file of an entry of the private directory or of a reserved id
abbrev pub system_file : Fact Entry → Option ℕ
system_file e = if is_system_id e.id then Some e.what.file_id else None

-- an attribute is the target of a symbolic link
abbrev pub is_target : Fact Attribute → Bool
is_target a = bytes_eq a.what.name target_name && holds_target a.what.body

-- the file of such an attribute
abbrev pub target_file : Fact Attribute → Option ℕ
target_file a = if is_target a then Some a.id else None
