use Rattle.std.proofs.Common.{sym, subst}
use Rattle.obj_base.specs.Stops.{Tells}
use Rattle.nx_ring.specs.Checkpoint.{site_of}
use Rattle.reach_rules.specs.Features.{HasFeature}
use Rattle.reach_rules.specs.Reached.{IsReachedFault}
use Rattle.own_settle.proofs.PoolLemmas.{pool-room}
use Rattle.reach_sweep.proofs.SpaceTells.{pool-tells}
use Rattle.reach_sweep.proofs.loading.load_pool.Goals as goal

pub returns-in-Ok-clause-room : goal.returns-in-Ok-clause-room
returns-in-Ok-clause-room g c = pool-room (site_of c.args.cp.now) c.args.space.now.manager c.in-Ok.bits.items c.in-Ok.ensures.shaped c.in-Ok.ensures.count

pub returns-in-Err-clause-present : goal.returns-in-Err-clause-present
returns-in-Err-clause-present g c = λ image told is.
    subst (Tells (IsReachedFault image c.args.cp.now) (HasFeature image c.args.cp.now)) (sym c.raise_pool.ensures) (pool-tells image c.args.cp.now c.args.space.now.manager is.block is.manager c.in-Err.stop c.in-Err.ensures.present)
