use Rattle.reach_gather.proofs.Parts.{of-parts}
use Rattle.reach_gather.proofs.theorem.namings_of_parts.Goals as goal

pub returns : goal.returns
returns c image seen = of-parts image seen
