use Rattle.std.proofs.Common.{refl}
use Rattle.blk_cache.proofs.Keeps.{demoted_same}
use Rattle.blk_cache.proofs.store.Store.demote.Goals as goal

pub returns : goal.returns
returns c = demoted_same _ _ c.args.block c.demote.ensures.entries refl refl
