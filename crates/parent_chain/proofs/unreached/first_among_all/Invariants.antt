use Rattle.std.proofs.Common.{take}
use Rattle.view_rules.specs.Directories.{parent_at}
use Rattle.parent_chain.specs.Ways.{left_at, met_at}
use Rattle.parent_chain.specs.Climbs.{HasClimbed, HaveWays}
use Rattle.parent_chain.proofs.unreached.first_among_all.Given as goal

abbrev pub invariant-loop-number : goal.invariant-loop-number
invariant-loop-number l = record { climbed : HasClimbed (parent_at l.facts) (left_at l.ways) (met_at l.ways) l.number; ways : HaveWays l.facts (take l.number l.facts.inodes) }
