use Rattle.std.proofs.Common.{ap, sym, ◌∙◌}
use Rattle.std.specs.Option.{option_copied}
use Rattle.rule_breaks.proofs.Shown.{attribute_twice}
use Rattle.rule_breaks.proofs.faults.names.attribute_twice.Goals as goal

pub returns-in_ok-at-in-Some : goal.returns-in_ok-at-in-Some
returns-in_ok-at-in-Some c = attribute_twice c.args.asked.now c.args.facts.now c.in-Some.a.now c.id.result c.name.result.now c.in_ok-at-in-Some.at (sym (ap option_copied c.in-Some.is) ∙ c.in_ok-first.ensures) c.id.ensures c.name.ensures c.in_ok-at-in-Some.ensures
