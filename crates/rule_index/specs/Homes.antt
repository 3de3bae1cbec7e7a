-- The directories of each file's entries.
use Rattle.std.specs.Prelude.{◌≡◌, ◌≢◌, ℕ, ◌<◌, Bool, true, false, ◌==◌, ◌&&◌, not, List, length, slice_index_or, count_by, Option, None, Some, MatchOption}
use Rattle.fs_record.specs.Entries.{Entry}
use Rattle.fs_record.specs.Facts.{Fact, directory_kind}
use Rattle.view_rules.specs.Facts.{does_count, names_file}
use Rattle.rule_index.specs.Kins.{kin_place, parent_at, has_kind}
use Rattle.rule_index.specs.declared.kin.Kin.{Kin}
use Rattle.rule_index.specs.declared.homes.Home.{Home}
use Rattle.rule_index.specs.declared.homes.Told.{Told}
use Rattle.rule_index.specs.declared.homes.Told.TheVariants.{Nowhere, ByParent, InPairs}

-- a pair is of a file
abbrev pub is_file : ℕ → ℕ × ℕ → Bool
is_file file p = p.0 == file

-- a pair is of a file and a directory
abbrev pub is_place : ℕ → ℕ → ℕ × ℕ → Bool
is_place file directory p = (p.0 == file) && (p.1 == directory)

-- the file and the directory of an entry
abbrev pub pair_of : Fact Entry → ℕ × ℕ
pair_of e = (e.what.file_id, e.id)

-- an entry names a file
abbrev pub is_named : ℕ → Fact Entry → Bool
is_named file e = e.what.file_id == file

-- an entry of a file, among those that count, stands in a directory
abbrev pub is_home : ℕ → ℕ → Fact Entry → Bool
is_home file directory e = names_file file e && (e.id == directory)

-- entries are told among the pairs
abbrev pub is_in_pairs : Told → Bool
is_in_pairs Nowhere = false
is_in_pairs ByParent = false
is_in_pairs InPairs = true

-- the entries of the file of an inode at a place are among the pairs, and so are those of one without an inode
abbrev pub are_listed_at : List Told → Option ℕ → Bool
are_listed_at places None = true
are_listed_at places (Some at) = is_in_pairs (slice_index_or places at Nowhere)

-- the entries of a file are among the pairs
abbrev pub are_listed : List (ℕ × Kin) → List Told → ℕ → Bool
are_listed kins places file = are_listed_at places (kin_place kins file)

-- an entry counts, and those of its file are among the pairs
abbrev pub is_listed : List (ℕ × Kin) → List Told → Fact Entry → Bool
is_listed kins places e = does_count e && are_listed kins places e.what.file_id

-- an entry that counts lacks its directory, or its file with its kind, by the kinds of inodes
abbrev pub is_astray : List (ℕ × Kin) → Fact Entry → Bool
is_astray kins e = does_count e && not (has_kind kins e.id directory_kind && has_kind kins e.what.file_id e.what.kind)

-- a home tells how many pairs are of a file, and the directory of one of them
abbrev pub IsHomeIn : List (ℕ × ℕ) → ℕ → Home → Type 0
IsHomeIn pairs file home = (home.entries ≡ count_by (is_file file) pairs) × (0 < home.entries → 0 < count_by (is_place file home.directory) pairs)

-- a home tells how many entries a file has, among those that count, and the directory of one of them
abbrev pub IsHomeOf : List (Fact Entry) → ℕ → Home → Type 0
IsHomeOf entries file home = (home.entries ≡ count_by (names_file file) entries) × (0 < home.entries → 0 < count_by (is_home file home.directory) entries)

-- an answer is the directory of a file's only entry among those that count, or that it hasn't exactly one
abbrev pub IsOnlyHome : List (Fact Entry) → ℕ → Option ℕ → Type 0
IsOnlyHome entries file answer =
    MatchOption answer (count_by (names_file file) entries ≢ 1) (λ directory. (count_by (names_file file) entries ≡ 1) × (count_by (is_home file directory) entries ≡ 1))

-- at the place of each inode stands where its file's entries are told, and pairs have the file and the directory of each entry that is told among them
pub record HasHomes (kins : List (ℕ × Kin)) (entries : List (Fact Entry)) (homes : List Told × List (ℕ × ℕ)) : Type 0 where
  pub long : length homes.0 ≡ length kins
  pub none : (file at : ℕ) → Some at ≡ kin_place kins file → slice_index_or homes.0 at Nowhere ≡ Nowhere → count_by (names_file file) entries ≡ 0
  pub one : (file at : ℕ) → Some at ≡ kin_place kins file → slice_index_or homes.0 at Nowhere ≡ ByParent → (count_by (names_file file) entries ≡ 1) × (count_by (is_home file (parent_at kins at)) entries ≡ 1)
  pub listed : (test : ℕ × ℕ → Bool) → count_by test homes.1 ≡ count_by (λ (e : Fact Entry). is_listed kins homes.0 e && test (pair_of e)) entries
