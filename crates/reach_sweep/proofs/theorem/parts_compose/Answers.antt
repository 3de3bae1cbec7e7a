use Rattle.reach_sweep.proofs.Composed.{parts-compose}
use Rattle.reach_sweep.proofs.theorem.parts_compose.Goals as goal

pub returns : goal.returns
returns c image seen = parts-compose image seen
