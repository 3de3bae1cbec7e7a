-- The entries of some files, apart from the others.
use Rattle.std.specs.Prelude.{◌≡◌, ℕ, ◌%◌, ◌^◌, Bool, ◌&&◌, List, slice_get, count_by}
use Rattle.apfs_model.specs.Lists.{passes}
use Rattle.fs_record.specs.Entries.{Entry}
use Rattle.fs_record.specs.Facts.{Fact}
use Rattle.view_rules.specs.Facts.{does_count, is_system_id}
use Rattle.rule_index.specs.Homes.{pair_of}

-- a file is marked, by its id cut to 16 bits, which other files may have too
abbrev pub is_marked : List Bool → ℕ → Bool
is_marked marks file = passes (slice_get marks (file % 2 ^ 16)) (λ (mark : Bool). mark)

-- an entry counts, and its file is marked
abbrev pub is_counted : List Bool → Fact Entry → Bool
is_counted marks e = does_count e && is_marked marks e.what.file_id

-- an entry stands in the private directory or in one of a reserved id, and its file is marked
abbrev pub is_system_one : List Bool → Fact Entry → Bool
is_system_one marks e = is_system_id e.id && is_marked marks e.what.file_id

-- pairs have the file and the directory of each entry that is selected
abbrev pub AreListed : (Fact Entry → Bool) → List (Fact Entry) → List (ℕ × ℕ) → Type 0
AreListed select entries pairs = (test : ℕ × ℕ → Bool) → count_by test pairs ≡ count_by (λ (e : Fact Entry). select e && test (pair_of e)) entries

-- pairs have those of all entries of marked files: of the entries that count, and of those of the private directory and of reserved ids
pub record AreNamings (entries : List (Fact Entry)) (namings : List Bool × (List (ℕ × ℕ) × List (ℕ × ℕ))) : Type 0 where
  pub counted : AreListed (is_counted namings.0) entries namings.1.0
  pub system : AreListed (is_system_one namings.0) entries namings.1.1
