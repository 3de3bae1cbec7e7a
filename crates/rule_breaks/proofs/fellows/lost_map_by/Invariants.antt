use Rattle.std.proofs.Common.{◌≡◌, None, take}
use Rattle.std.specs.List.{find}
use Rattle.view_rules.specs.Siblings.{is_map_lost}
use Rattle.rule_breaks.proofs.fellows.lost_map_by.Given as goal

abbrev pub invariant-loop-m : goal.invariant-loop-m
invariant-loop-m l = find (is_map_lost l.facts) (take l.m-index l.facts.siblings) ≡ None
