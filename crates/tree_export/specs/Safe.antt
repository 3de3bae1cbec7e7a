-- Paths that stay in a folder.
use Rattle.std.specs.Prelude.{◌≢◌, ℕ, ◌==◌, List, [], ◌∷◌, All, bytes_eq, codes, if◌then◌else◌}
use Rattle.std.specs.List.{flat_map, join_by}
use Rattle.path_search.specs.Paths.{slash, parts_of}
use Rattle.blk_folder.specs.Items.{Item}

-- a component stays where it is: it isn't empty, nor `.`, nor `..`, and holds neither a slash nor a zero byte
pub record IsSafePart (part : List ℕ) : Type 0 where
  pub some : part ≢ []
  pub no_dot : part ≢ codes "."
  pub no_dots : part ≢ codes ".."
  pub no_slash : All (λ (byte : ℕ). byte ≢ slash) part
  pub no_zero : All (λ (byte : ℕ). byte ≢ 0) part

-- a path stays in the folder: each of its components does
abbrev pub IsSafe : List ℕ → Type 0
IsSafe path = All IsSafePart (parts_of path)

-- some items do
abbrev pub AreSafe : List Item → Type 0
AreSafe items = All (λ (item : Item). IsSafe item.path) items

-- ---- a path as it is written
-- a byte: a zero byte by its number
abbrev pub safe_byte : ℕ → List ℕ
safe_byte byte = if byte == 0 then codes "\\x00" else byte ∷ []

-- a component: an empty one without a number, `.` and `..` by their bytes
abbrev pub safe_part : List ℕ → List ℕ
safe_part part =
    if bytes_eq part [] then codes "\\x" else
    if bytes_eq part (codes ".") then codes "\\x2e" else
    if bytes_eq part (codes "..") then codes "\\x2e\\x2e" else part

-- the path: that of a tree's row as it is, but for components `.` and `..`; names aren't empty, and are shown
unfoldable pub safe_path : List ℕ → List ℕ
safe_path path = join_by safe_part (slash ∷ []) (parts_of (flat_map safe_byte path))
