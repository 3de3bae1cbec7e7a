use Rattle.blk_cache.proofs.Keeps.{reordered_cache}
use Rattle.blk_cache.proofs.part.read.Goals as goal

pub returns-clause-cache : goal.returns-clause-cache
returns-clause-cache g c = reordered_cache g.S.BlockSource.bytes g.S.BlockSource.bytes_len c.parts.new.inner c.parts.new.store c.demote_last.new.store c.parts.ensures.cache c.demote_last.ensures
