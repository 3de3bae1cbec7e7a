use Rattle.std.proofs.Common.{ap, sym, ◌∙◌}
use Rattle.std.specs.Option.{option_copied}
use Rattle.rule_breaks.proofs.Shown.{lost_link}
use Rattle.rule_breaks.proofs.faults.siblings.lost_link.Goals as goal

pub returns-in-Some : goal.returns-in-Some
returns-in-Some c = lost_link c.args.asked.now c.args.fellows.now.facts.now c.in-Some.l.now c.sibling.result c.id_at.result (sym (ap option_copied c.in-Some.is) ∙ c.in_ok-first.ensures) c.sibling.ensures c.id_at.ensures
