use Rattle.std.proofs.Common.{sym, subst}
use Rattle.apfs_check.specs.Steps.{IsThere}
use Rattle.apfs_check.proofs.Spent.{newest-within}
use Rattle.apfs_check.proofs.Stopped.{ring-stops}
use Rattle.apfs_check.proofs.checking.newest_checkpoint.Goals as goal

pub returns-in-Err-clause-present : goal.returns-in-Err-clause-present
returns-in-Err-clause-present g c profile image told =
    subst (IsThere profile image) (sym c.stop_of.ensures) (ring-stops profile image c.in-Err.stop (c.in-Err.ensures.present image told))

pub returns-in-Ok-clause-reads : goal.returns-in-Ok-clause-reads
returns-in-Ok-clause-reads g c image told = newest-within image (g.S.BlockSource.reads c.args.src.now) (g.S.BlockSource.reads c.newest.new.src) (c.newest.ensures.reads image told)

pub returns-in-Err-clause-reads : goal.returns-in-Err-clause-reads
returns-in-Err-clause-reads g c image told = newest-within image (g.S.BlockSource.reads c.args.src.now) (g.S.BlockSource.reads c.newest.new.src) (c.newest.ensures.reads image told)
