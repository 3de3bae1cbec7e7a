use Rattle.parent_chain.specs.Ways.{left_at, met_at}
use Rattle.parent_chain.proofs.Climbing.{climb-on, followed}
use Rattle.parent_chain.proofs.climbs.climb.Goals as goal

pub climb-preserved : goal.climb-preserved
climb-preserved c = λ parent had.
    let t = followed (left_at c.climb.ways c.climb.id) c.climb.id c.in-Some.parent c.in-Some.ensures.value in
    climb-on parent (left_at c.climb.ways) (left_at c.follow.new.self) (met_at c.climb.ways) (met_at c.follow.new.self) c.args.number c.args.start c.climb.id c.in-Some.parent (c.climb.invariant parent had) t.0 t.1 c.in-Some.ensures.left c.in-Some.ensures.met
