-- The separators of the entries so far were added.
use Rattle.std.proofs.Common.{◌≡◌, ◌++◌, take}
use Rattle.view_change.specs.Outline.{separators_of}
use Rattle.view_change.proofs.outline.put_entries.Given as goal

abbrev pub invariant-entries : goal.invariant-entries
invariant-entries g l = l.into.items ≡ l.fn.into.items ++ take l.i (separators_of g.K.TreeKey.shape l.node)
