use Rattle.std.proofs.Common.{sym, ◌∙◌}
use Rattle.blk_cache.proofs.Keeps.{kept_inside}
use Rattle.blk_cache.proofs.cached.Cached.kept.Goals as goal

pub returns-clause-before_end : goal.returns-clause-before_end
returns-clause-before_end g c = λ kept. kept_inside g.S.BlockSource.bytes g.S.BlockSource.bytes_len c.args.self.now.inner c.args.self.now.store c.args.block c.args.self.now.cache (sym c.contains.ensures ∙ kept)
