use Rattle.std.proofs.Common.{◌≡◌, ℕ, List, Some, true, take}
use Rattle.bt_cursor.specs.Flat.{flat_of}
use Rattle.bt_cursor.specs.Line.{line_of}
use Rattle.bt_cursor.specs.Order.{is_ordered}
use Rattle.bt_cursor.specs.Cursors.{root_of, tree_of, IsOn}
use Rattle.view_rules.specs.Facts.{facts_in}
use Rattle.path_search.specs.Stays.{Stays}
use Rattle.path_search.specs.Parts.{whats, targets_by}
use Rattle.path_search.specs.Needs.{HaveFiles}
use Rattle.path_search.proofs.by_search.targets_at.Given as goal

abbrev pub invariant-loop-entry : goal.invariant-loop-entry
invariant-loop-entry g l = record {
  stays : Stays g.S.BlockSource.bytes g.S.BlockSource.bytes_len g.S.BlockSource.faults l.fn.src l.src l.fn.cursor l.cursor;
  found : (image : List ℕ) → g.S.BlockSource.bytes l.fn.src ≡ Some image → IsOn image l.fn.cursor → is_ordered g.K.TreeKey.shape (line_of (tree_of l.fn.cursor image) (root_of l.fn.cursor)) ≡ true → l.targets.items ≡ targets_by (facts_in l.names (flat_of (tree_of l.fn.cursor image) (root_of l.fn.cursor))) (whats (take l.entry-index l.entries));
  files : (image : List ℕ) → g.S.BlockSource.bytes l.fn.src ≡ Some image → IsOn image l.fn.cursor → is_ordered g.K.TreeKey.shape (line_of (tree_of l.fn.cursor image) (root_of l.fn.cursor)) ≡ true → HaveFiles (facts_in l.names (flat_of (tree_of l.fn.cursor image) (root_of l.fn.cursor))) (whats (take l.entry-index l.entries));
}
