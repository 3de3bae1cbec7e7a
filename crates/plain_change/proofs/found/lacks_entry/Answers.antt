use Rattle.std.proofs.Common.{sym, ◌∙◌}
use Rattle.apfs_model.proofs.BoolTests.{not-true}
use Rattle.plain_change.proofs.Among.{entry-told}
use Rattle.plain_change.proofs.found.lacks_entry.Goals as goal

pub returns-in-Some : goal.returns-in-Some
returns-in-Some c holds =
    sym (entry-told c.args.after.now.index.now.facts.now c.args.l.now c.parent.result c.in-Some.entries.now c.goes_with_entry.result c.parent.ensures c.in-Some.ensures c.goes_with_entry.ensures) ∙ not-true c.goes_with_entry.result holds
