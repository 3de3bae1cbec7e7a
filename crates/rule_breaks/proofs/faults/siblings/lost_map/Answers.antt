use Rattle.std.proofs.Common.{ap, sym, ◌∙◌}
use Rattle.std.specs.Option.{option_copied}
use Rattle.rule_breaks.proofs.Shown.{lost_map}
use Rattle.rule_breaks.proofs.faults.siblings.lost_map.Goals as goal

pub returns-in-Some : goal.returns-in-Some
returns-in-Some c = lost_map c.args.asked.now c.args.fellows.now.facts.now c.in-Some.m.now c.id.result c.id_at.result (sym (ap option_copied c.in-Some.is) ∙ c.in_ok-first.ensures) c.id.ensures c.id_at.ensures
