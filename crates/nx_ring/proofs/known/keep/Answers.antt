use Rattle.nx_ring.proofs.Kept.{keeps}
use Rattle.nx_ring.proofs.known.keep.Goals as goal

pub returns-clause-known : goal.returns-clause-known
returns-clause-known c image areas was is = keeps image areas c.args.known.now c.insert.new.self (c.args.m.now.paddr, c.args.m.now.size) c.args.sound was is (λ q. c.in_ok-insert.ensures.updates.0 q)
