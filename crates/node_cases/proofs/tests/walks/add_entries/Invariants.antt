use Rattle.std.proofs.Common.{length}
use Rattle.obj_base.specs.Site.{IsSiteFor}
use Rattle.bt_cursor.specs.Cursors.{site_of}
use Rattle.node_cases.proofs.tests.walks.add_entries.Given as goal

abbrev pub invariant-walk : goal.invariant-walk
invariant-walk g l = IsSiteFor (site_of l.cursor) (length l.src.bytes)
