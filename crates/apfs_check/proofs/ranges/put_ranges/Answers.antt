use Rattle.std.proofs.Common.{◌≡◌, ◌∙◌, ◌+◌, ◌≤◌, ◌++◌, sym, ap, subst}
use Rattle.obj_base.specs.Stops.{Tells, raised}
use Rattle.obj_base.specs.declared.site.Site.{Site}
use Rattle.nx_ring.specs.Checkpoint.{site_of}
use Rattle.ext_ref.specs.Left.{AreShort}
use Rattle.ext_ref.specs.Ranges.{ranges_of}
use Rattle.ext_ref.specs.Scanned.{ext_steps, IsScanned, IsExtFeature}
use Rattle.ext_ref.specs.Stops.{IsExtStop}
use Rattle.apfs_check.specs.Raised.{of_extents}
use Rattle.apfs_check.specs.Reads.{root_reads}
use Rattle.apfs_check.specs.Steps.{IsThere}
use Rattle.apfs_check.proofs.Short.{ranges-short}
use Rattle.apfs_check.proofs.Stopped.{extents-stops}
use Rattle.apfs_check.proofs.ranges.put_ranges.Goals as goal

pub returns-in_ok-put_all_short-in-Ok-clause-clear : goal.returns-in_ok-put_all_short-in-Ok-clause-clear
returns-in_ok-put_all_short-in-Ok-clause-clear g c image told =
    let site = site_of c.args.cp.now in
    let root = c.args.root in
    let scanned = subst (λ (s : Site). IsScanned image s root (ext_steps image s root) c.in-Ok.more.items) c.site-site.ensures (c.in-Ok.ensures.clear image told) in
    let same : c.deref.result.now ≡ ranges_of image site root = c.deref.ensures.value ∙ scanned.ranges_are in
    c.in_ok-put_all_short-in-Ok.ensures.added (subst AreShort (sym same) (ranges-short image site root)) ∙ ap (λ rs. c.args.ranges.now.items ++ rs) same

pub returns-in-Err-clause-present : goal.returns-in-Err-clause-present
returns-in-Err-clause-present g c profile image head told newest sound at =
    let seen = c.args.cp.now in
    let root = c.args.root in
    subst (IsThere profile image) (sym (c.stop_of.ensures ∙ ap (λ xid. raised (of_extents xid root) c.in-Err.stop) c.xid.ensures))
    (extents-stops profile image seen newest head sound root at c.in-Err.stop
    (subst (λ (s : Site). Tells (IsExtStop image s root) (IsExtFeature image s root) c.in-Err.stop) c.site-site.ensures (c.in-Err.ensures.present image told)))

pub returns-in_ok-put_all_short-in-Ok-clause-reads : goal.returns-in_ok-put_all_short-in-Ok-clause-reads
returns-in_ok-put_all_short-in-Ok-clause-reads g c image told =
    let reads = g.S.BlockSource.reads in
    subst (λ (s : Site). reads c.new_ranges.new.src ≤ reads c.args.src.now + root_reads image s c.args.root) c.site-site.ensures (c.in-Ok.ensures.reads image told)
