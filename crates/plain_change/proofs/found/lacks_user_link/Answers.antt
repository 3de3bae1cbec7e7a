use Rattle.std.proofs.Common.{sym, ◌∙◌}
use Rattle.apfs_model.proofs.BoolTests.{not-true}
use Rattle.plain_change.proofs.Among.{user-told}
use Rattle.plain_change.proofs.found.lacks_user_link.Goals as goal

pub returns-in-Some : goal.returns-in-Some
returns-in-Some c holds =
    sym (user-told c.args.after.now.index.now.facts.now c.args.file c.args.sibling c.in-Some.links.now c.has_user_link.result c.in-Some.ensures c.has_user_link.ensures) ∙ not-true c.has_user_link.result holds
