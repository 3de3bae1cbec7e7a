use Rattle.std.proofs.Common.{length}
use Rattle.obj_base.specs.Site.{IsSiteFor}
use Rattle.bt_cursor.specs.Liners.{site_of}
use Rattle.node_cases.proofs.tests.walks.add_items.Given as goal

abbrev pub invariant-walk : goal.invariant-walk
invariant-walk g l = IsSiteFor (site_of l.liner) (length l.src.bytes)
