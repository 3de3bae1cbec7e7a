-- The ways in which facts are looked up.
use Rattle.view_rules.specs.Facts.{Facts}
use Rattle.rule_index.specs.declared.looks.Looks.{Looks}
use Rattle.rule_index.specs.declared.looks.Looks.TheVariants.{Counted, Near}

-- the facts that are looked up
abbrev pub looked_at : Looks → Facts
looked_at (Counted counted) = counted.facts.now
looked_at (Near near) = near.facts.now
