use Rattle.std.proofs.Common.{sym, ◌∙◌}
use Rattle.plain_change.proofs.Among.{link-told}
use Rattle.plain_change.proofs.found.has_link.Goals as goal

pub returns-in-Some : goal.returns-in-Some
returns-in-Some c holds =
    sym (link-told c.args.after.now.index.now.facts.now c.args.e.now c.file_id.result c.in-Some.links.now c.goes_with_link.result c.file_id.ensures c.in-Some.ensures c.goes_with_link.ensures) ∙ holds
