use Rattle.reach_gather.proofs.OfKinds.{of-steps}
use Rattle.reach_gather.proofs.theorem.namings_of_steps.Goals as goal

pub returns : goal.returns
returns c = of-steps
