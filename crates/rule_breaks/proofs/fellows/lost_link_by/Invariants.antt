use Rattle.std.proofs.Common.{◌≡◌, None, take}
use Rattle.std.specs.List.{find}
use Rattle.view_rules.specs.Siblings.{is_link_lost}
use Rattle.rule_breaks.proofs.fellows.lost_link_by.Given as goal

abbrev pub invariant-loop-l : goal.invariant-loop-l
invariant-loop-l m = find (is_link_lost m.facts) (take m.l-index m.facts.links) ≡ None
