use Rattle.std.proofs.Common.{◌≡◌, None, take}
use Rattle.std.specs.List.{find}
use Rattle.view_rules.specs.Names.{is_attribute_repeated}
use Rattle.rule_breaks.proofs.repeats.attribute_counted_twice.Given as goal

abbrev pub invariant-loop-a : goal.invariant-loop-a
invariant-loop-a l = find (is_attribute_repeated l.facts) (take l.a-index l.facts.attributes) ≡ None
