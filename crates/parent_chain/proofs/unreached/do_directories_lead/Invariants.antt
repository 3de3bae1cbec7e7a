use Rattle.std.proofs.Common.{take}
use Rattle.view_rules.specs.Directories.{parent_at}
use Rattle.parent_chain.specs.Ways.{left_at, met_at}
use Rattle.parent_chain.specs.Climbs.{HasClimbed}
use Rattle.parent_chain.proofs.ByDirectories.{directories_of, LeadFrom}
use Rattle.parent_chain.proofs.unreached.do_directories_lead.Given as goal

abbrev pub invariant-loop-number : goal.invariant-loop-number
invariant-loop-number l = record { climbed : HasClimbed (parent_at (directories_of l.facts)) (left_at l.ways) (met_at l.ways) l.number; lead : LeadFrom (parent_at (directories_of l.facts)) (take l.number l.facts.inodes) }
