use Rattle.std.proofs.Common.{◌∙◌, sym, ap, subst}
use Rattle.obj_base.specs.Stops.{raised}
use Rattle.vol_view.specs.Heads.{heads_of}
use Rattle.apfs_check.specs.Raised.{of_sweep}
use Rattle.apfs_check.specs.Steps.{IsThere}
use Rattle.apfs_check.proofs.Stopped.{sweep-stops}
use Rattle.apfs_check.proofs.checking.tally_of.Goals as goal

pub returns-in-Ok-clause-clear : goal.returns-in-Ok-clause-clear
returns-in-Ok-clause-clear g c image told are = c.in-Ok.ensures.clear image (heads_of image c.args.cp.now) told are.heads are.loaded

pub returns-in-Ok-clause-tally : goal.returns-in-Ok-clause-tally
returns-in-Ok-clause-tally g c image told are = c.in-Ok.ensures.tally image (heads_of image c.args.cp.now) told are.heads are.loaded

pub returns-in-Err-clause-present : goal.returns-in-Err-clause-present
returns-in-Err-clause-present g c profile image told are =
    let seen = c.args.cp.now in
    subst (IsThere profile image) (sym (c.stop_of.ensures ∙ ap (λ xid. raised (of_sweep xid) c.in-Err.stop) c.xid.ensures))
    (sweep-stops profile image seen are.newest c.in-Err.stop (c.in-Err.ensures.present image (heads_of image seen) told are.heads are.loaded))

pub returns-in-Ok-clause-reads : goal.returns-in-Ok-clause-reads
returns-in-Ok-clause-reads g c image told are = c.in-Ok.ensures.reads image (heads_of image c.args.cp.now) told are.heads are.loaded
