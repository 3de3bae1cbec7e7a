-- A block size that is told is an accepted one.
use Rattle.std.proofs.Common.{sym}
use Rattle.nx_block.proofs.Laws.{size_means}
use Rattle.apfs_cli.proofs.over_cache.told_size.Goals as goal

pub returns-in-Some-clause-accepted : goal.returns-in-Some-clause-accepted
returns-in-Some-clause-accepted c = (size_means c.args.first.now c.in-Some.size (sym c.in-Some.ensures)).1
