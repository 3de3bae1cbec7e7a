use Rattle.std.proofs.Common.{◌≡◌, ℕ, ◌++◌, ◌-◌, List, [], length, reverse}
use Rattle.view_rules.specs.Facts.{Facts}
use Rattle.view_tree.specs.Kept.{told_rows, last_path}
use Rattle.view_tree.specs.Parts.{told_of, told_from, left_told, Fits, IsMemo, IsUnderway, RowsEntered, StaysKept, AreKeptIn, AreRowsKept}
use Rattle.view_tree.proofs.under.rows_below.Given as goal

abbrev pub invariant-rows : goal.invariant-rows
invariant-rows l = record {
  walk : (facts : Facts) (path : List ℕ) → IsUnderway facts path l.id l.files.entries.items l.files.kinds.items → IsMemo facts path l.fn.memo →
      (told_rows [] l.rows.items ++ told_from facts (length facts.entries - length (told_rows [] l.rows.items)) (left_told l.path.items (reverse l.left.items)) ≡ told_from facts (length facts.entries) (told_of facts [] l.id))
      × (RowsEntered facts l.id (left_told l.path.items (reverse l.left.items)) × (IsMemo facts path l.memo × (StaysKept l.fn.memo l.memo × (AreKeptIn facts l.memo l.id × AreRowsKept facts l.memo (told_rows [] l.rows.items)))));
  path : l.path.items ≡ last_path [] l.rows.items;
  fits : (facts : Facts) (path : List ℕ) → IsUnderway facts path l.id l.files.entries.items l.files.kinds.items → IsMemo facts path l.fn.memo → Fits l.path.items (reverse l.left.items);
}

abbrev pub decreases-rows : goal.decreases-rows
decreases-rows l = length l.files.entries.items - length l.rows.items
