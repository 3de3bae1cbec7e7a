-- Whole trees.
use Rattle.std.specs.Prelude.{ℕ, Bool, ◌&&◌}
use Rattle.bt_cursor.specs.Tree.{Tree}
use Rattle.bt_cursor.specs.Line.{line_of}
use Rattle.bt_cursor.specs.Order.{is_ordered}
use Rattle.bt_cursor.specs.Counts.{is_counted}
use Rattle.bt_cursor.specs.Met.{is_walkable}

-- a whole tree: walkable, ordered and counted
abbrev pub is_whole : {K : Type 0} → Tree K → ℕ → Bool
is_whole tree root = is_walkable tree root && (is_ordered tree.shape (line_of tree root) && is_counted tree root)
