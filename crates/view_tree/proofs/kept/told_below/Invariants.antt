use Rattle.std.proofs.Common.{◌≡◌, []}
use Rattle.view_tree.specs.Kept.{told_rows, last_path}
use Rattle.view_tree.proofs.kept.told_below.Given as goal

abbrev pub invariant-rows : goal.invariant-rows
invariant-rows l = record {
  told : l.told.items ≡ told_rows [] l.yielded;
  path : l.path.items ≡ last_path [] l.yielded;
}
