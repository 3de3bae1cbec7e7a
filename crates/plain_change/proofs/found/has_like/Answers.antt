use Rattle.std.proofs.Common.{sym, ◌∙◌}
use Rattle.plain_change.proofs.Among.{like-told}
use Rattle.plain_change.proofs.found.has_like.Goals as goal

pub returns-in-Some : goal.returns-in-Some
returns-in-Some c holds =
    sym (like-told c.args.after.now.index.now.facts.now c.args.l.now c.file.result c.in-Some.links.now c.is_among.result c.file.ensures c.in-Some.ensures c.is_among.ensures) ∙ holds
