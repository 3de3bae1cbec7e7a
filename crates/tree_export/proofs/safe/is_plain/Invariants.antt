use Rattle.std.proofs.Common.{drop}
use Rattle.path_search.specs.Paths.{slash}
use Rattle.tree_export.specs.Parts.{IsPlainAfter}
use Rattle.tree_export.proofs.safe.is_plain.Given as goal

abbrev pub invariant-bytes : goal.invariant-bytes
invariant-bytes l = IsPlainAfter l.before (drop l.byte-index l.path) → IsPlainAfter slash l.path
