use Rattle.rule_breaks.proofs.Texts.{ascii_name}
use Rattle.rule_breaks.proofs.Suspected.{alone-here}
use Rattle.rule_breaks.proofs.suspects.is_suspect.Goals as goal

pub returns-else-follows : goal.returns-else-follows
returns-else-follows c apart =
    alone-here c.args.entries.now c.args.i c.index-entries-i.result c.requires c.index-entries-i.is
    (ascii_name c.index-entries-i.result.what.name c.if-not-is_ascii.ensures)
    (c.follows_its_like-follows.ensures c.if-follows.false) (c.precedes_its_like-precedes.ensures apart)
