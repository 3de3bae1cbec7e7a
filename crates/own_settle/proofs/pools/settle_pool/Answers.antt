use Rattle.std.proofs.Common.{refl, ap, ◌∙◌}
use Rattle.space_map.specs.Fields.{pool_base_of, pool_blocks_of}
use Rattle.space_map.specs.Stops.{Known}
use Rattle.own_settle.proofs.PoolLemmas.{pool-settled-by}
use Rattle.own_settle.proofs.pools.settle_pool.Goals as goal

pub returns-in-None-clause-clear : goal.returns-in-None-clause-clear
returns-in-None-clause-clear c = λ placed.
    pool-settled-by c.args.reached.now c.in_ok-ledger.ledger c.claim_all.new.ledger c.pool_owners.result.now c.pool-first.result c.pool-bits.result.now c.pool_owners.ensures
    (c.pool-first.ensures ∙ ap (λ (s : Known). (pool_base_of s.manager, pool_blocks_of s.manager)) c.space-2.ensures) c.pool-bits.ensures.all placed c.in-Ok.ensures.clear (c.in-None.ensures.agree refl)
