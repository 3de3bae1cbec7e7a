-- The parent of each inode, and the climb that met it.
use Rattle.std.specs.Prelude.{◌≡◌, ℕ, Bool, ◌==◌, List, count_by, Option, None, Some, option_map, option_and_then, is_none, if◌then◌else◌}
use Rattle.std.specs.List.{find}
use Rattle.fs_record.specs.Inodes.{Inode}
use Rattle.fs_record.specs.Facts.{Fact}
use Rattle.parent_chain.specs.declared.ways.Way.{Way}

-- the way of an inode that no climb met
abbrev pub way_of : Fact Inode → Way
way_of f = record { id = f.id; parent = f.what.parent; climb = None }

-- a way is of an id
abbrev pub is_of : ℕ → Way → Bool
is_of id w = w.id == id

-- the way of an id, the first where there are more
unfoldable pub way_at : List Way → ℕ → Option Way
way_at ways id = find (is_of id) ways

-- the climb that met an id
unfoldable pub met_at : List Way → ℕ → Option ℕ
met_at ways id = option_and_then (λ (w : Way). w.climb) (way_at ways id)

-- the parent on a way that no climb met
abbrev pub left_of : Way → Option ℕ
left_of w = if is_none w.climb then Some w.parent else None

-- the parent of an id that no climb met
unfoldable pub left_at : List Way → ℕ → Option ℕ
left_at ways id = option_and_then left_of (way_at ways id)

-- how many ways no climb met
unfoldable pub left_count : List Way → ℕ
left_count ways = count_by (λ (w : Way). is_none w.climb) ways

-- ways are those of some inodes, the first of each id, and no climb met one
abbrev pub HasWaysOf : List (Fact Inode) → List Way → Type 0
HasWaysOf inodes ways = (id : ℕ) → way_at ways id ≡ option_map way_of (find (λ (f : Fact Inode). f.id == id) inodes)
