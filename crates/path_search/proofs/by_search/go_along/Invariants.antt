use Rattle.std.proofs.Common.{◌≡◌, ℕ, List, Some, true, map, drop}
use Rattle.bt_cursor.specs.Flat.{flat_of}
use Rattle.bt_cursor.specs.Line.{line_of}
use Rattle.bt_cursor.specs.Order.{is_ordered}
use Rattle.bt_cursor.specs.Cursors.{root_of, tree_of, IsOn}
use Rattle.view_rules.specs.Facts.{facts_in}
use Rattle.path_search.specs.Stays.{Stays}
use Rattle.path_search.specs.Parts.{along, NeedsIn, AlongNeeds}
use Rattle.path_search.proofs.by_search.go_along.Given as goal

abbrev pub invariant-loop-part : goal.invariant-loop-part
invariant-loop-part g l = record {
  stays : Stays g.S.BlockSource.bytes g.S.BlockSource.bytes_len g.S.BlockSource.faults l.fn.src l.src l.fn.cursor l.cursor;
  goes : (image : List ℕ) → g.S.BlockSource.bytes l.fn.src ≡ Some image → IsOn image l.fn.cursor → is_ordered g.K.TreeKey.shape (line_of (tree_of l.fn.cursor image) (root_of l.fn.cursor)) ≡ true → along (facts_in l.names (flat_of (tree_of l.fn.cursor image) (root_of l.fn.cursor))) (map (λ part. part.now) (drop l.part-index l.parts)) l.place ≡ along (facts_in l.names (flat_of (tree_of l.fn.cursor image) (root_of l.fn.cursor))) (map (λ part. part.now) l.parts) l.fn.start;
  needs : (image : List ℕ) → g.S.BlockSource.bytes l.fn.src ≡ Some image → IsOn image l.fn.cursor → is_ordered g.K.TreeKey.shape (line_of (tree_of l.fn.cursor image) (root_of l.fn.cursor)) ≡ true → NeedsIn (λ facts has_all. AlongNeeds facts has_all (map (λ part. part.now) (drop l.part-index l.parts)) l.place) l.names (tree_of l.fn.cursor image) (root_of l.fn.cursor) → NeedsIn (λ facts has_all. AlongNeeds facts has_all (map (λ part. part.now) l.parts) l.fn.start) l.names (tree_of l.fn.cursor image) (root_of l.fn.cursor);
}
