use Rattle.std.proofs.Common.{refl, ap, sym, ◌∙◌}
use Rattle.std.specs.Option.{option_copied}
use Rattle.rule_breaks.proofs.Shown.{name_hash}
use Rattle.tree_rules.proofs.faults.hashes.fault.Goals as goal

pub returns-in_ok-at-in-Some : goal.returns-in_ok-at-in-Some
returns-in_ok-at-in-Some c = name_hash c.args.asked.now c.args.facts.now c.in-Some.e.now c.in-Some.e.now.id c.in-Some.e.now.what.name c.in_ok-at-in-Some.at (sym (ap option_copied c.in-Some.is) ∙ c.in_ok-first.ensures) c.in-Strict.is refl refl c.in_ok-at-in-Some.ensures
