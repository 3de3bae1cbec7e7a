use Rattle.std.proofs.Common.{◌≡◌, None, take}
use Rattle.std.specs.List.{find}
use Rattle.view_rules.specs.Names.{is_entry_repeated}
use Rattle.rule_breaks.proofs.repeats.entry_counted_twice.Given as goal

abbrev pub invariant-loop-e : goal.invariant-loop-e
invariant-loop-e l = find (is_entry_repeated l.facts) (take l.e-index l.facts.entries) ≡ None
