use Rattle.std.proofs.Common.{ℕ, Option}
use Rattle.parent_chain.specs.Ways.{left_at, met_at, left_count}
use Rattle.parent_chain.specs.Climbs.{HasClimbed, IsClimbing}
use Rattle.parent_chain.proofs.climbs.climb.Given as goal

abbrev pub invariant-climb : goal.invariant-climb
invariant-climb l = (parent : ℕ → Option ℕ) → HasClimbed parent (left_at l.fn.ways) (met_at l.fn.ways) l.number → IsClimbing parent (left_at l.ways) (met_at l.ways) l.number l.start l.id

abbrev pub decreases-climb : goal.decreases-climb
decreases-climb l = left_count l.ways
