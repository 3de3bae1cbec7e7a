use Rattle.space_pool.proofs.Named.{unnamed-root}
use Rattle.space_pool.proofs.queues.walked.Goals as goal

pub returns-in-None-clause-present : goal.returns-in-None-clause-present
returns-in-None-clause-present g c image told = unnamed-root image c.args.cp.now c.args.root c.in-None.ensures
