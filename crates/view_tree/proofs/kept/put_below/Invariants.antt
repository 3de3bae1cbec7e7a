use Rattle.std.proofs.Common.{◌≡◌, [], take}
use Rattle.view_tree.specs.Kept.{told_rows, last_path}
use Rattle.view_tree.specs.Texts.{tree_text}
use Rattle.view_tree.proofs.RowsPut.{Gathers}
use Rattle.view_tree.proofs.kept.put_below.Given as goal

abbrev pub invariant-rows : goal.invariant-rows
invariant-rows g l = record {
  path : l.path.items ≡ last_path [] (take l.row-index l.rows);
  lines : Gathers (tree_text (told_rows [] (take l.row-index l.rows))) l.waiting.items (g.W.Sink.contents l.fn.out) (g.W.Sink.contents l.out) (g.W.Sink.faults l.fn.out) (g.W.Sink.faults l.out);
}
