use Rattle.std.proofs.Common.{◌∙◌, sym, ap, subst, arith}
use Rattle.apfs_model.specs.Lists.{In}
use Rattle.obj_base.specs.Stops.{raised}
use Rattle.vol_view.specs.Placed.{IsHead}
use Rattle.vol_view.specs.ReadBound.{heads_reads}
use Rattle.vol_view.specs.Stops.{AreHeads}
use Rattle.apfs_check.specs.Raised.{of_volume}
use Rattle.apfs_check.specs.Steps.{IsThere}
use Rattle.apfs_check.proofs.Stopped.{heads-stops}
use Rattle.apfs_check.proofs.loading.volumes_of.Goals as goal

pub returns-in-Err-clause-present : goal.returns-in-Err-clause-present
returns-in-Err-clause-present g c profile image told newest =
    subst (IsThere profile image) (sym (c.stop_of.ensures ∙ ap (λ xid. raised (of_volume xid) c.in-Err.stop) c.xid.ensures))
    (heads-stops profile image c.args.cp.now newest c.in-Err.stop (c.in-Err.ensures.present image told))

pub load_all-requires-clause-heads : goal.load_all-requires-clause-heads
load_all-requires-clause-heads g c head one =
    subst (λ bytes. IsHead bytes c.args.cp.now head) (sym c.heads.ensures.kept.same_bytes) (c.in-Ok.ensures.each head (subst (In head) c.deref.ensures.value one))

pub returns-clause-present : goal.returns-clause-present
returns-clause-present g c profile image told newest =
    c.in-Err-load_all.ensures.present profile image (c.heads.ensures.kept.same_bytes ∙ told) newest
    (subst (AreHeads image c.args.cp.now) (sym c.deref.ensures.value) (c.in-Ok.ensures.clear image told))

pub returns-in-Ok-load_all-clause-reads : goal.returns-in-Ok-load_all-clause-reads
returns-in-Ok-load_all-clause-reads g c image told =
    omega (arith, c.in-Ok.ensures.reads image told, c.in-Ok-load_all.ensures.reads image (c.heads.ensures.kept.same_bytes ∙ told), ap (heads_reads image c.args.cp.now) (c.in-Ok.ensures.clear image told).same)
