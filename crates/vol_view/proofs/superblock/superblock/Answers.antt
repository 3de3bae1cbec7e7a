use Rattle.std.proofs.Common.{sym, subst}
use Rattle.blk_read.specs.Object.{sound_object}
use Rattle.vol_view.specs.Heads.{super_in, super_test}
use Rattle.vol_view.specs.Slots.{tested}
use Rattle.vol_view.proofs.Supers.{IsStopOf, raise_head}
use Rattle.vol_view.proofs.superblock.superblock.Goals as goal

pub returns-in-Err-clause-found : goal.returns-in-Err-clause-found
unfolding sound_object
returns-in-Err-clause-found g c image told =
    let site = c.args.site.now in
    let block = c.args.block in
    let bytes = super_in image site block in
    subst (IsStopOf (tested site c.args.oid block bytes)) (sym c.raise.ensures) (raise_head block bytes (super_test image site c.args.oid block) c.in-Err.stop (c.in-Err.ensures.found image told))
