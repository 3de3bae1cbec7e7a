use Rattle.reach_gather.proofs.VolumeLemmas.Law.{the-law}
use Rattle.reach_gather.proofs.of_volumes.parts_of_volumes.Goals as goal

pub returns : goal.returns
returns c = the-law
