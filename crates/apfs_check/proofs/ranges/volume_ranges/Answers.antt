use Rattle.std.proofs.Common.{◌≡◌, ◌∙◌, ◌+◌, ◌≤◌, ◌++◌, map, sym, ap, subst}
use Rattle.std.specs.Prelude.{flat_map}
use Rattle.nx_ring.specs.Checkpoint.{site_of}
use Rattle.vol_view.specs.Volumes.{Loaded}
use Rattle.ext_ref.specs.Ranges.{ranges_of}
use Rattle.apfs_check.specs.Reads.{root_reads}
use Rattle.apfs_check.specs.Steps.{IsExtentsRoot, snapshot_root}
use Rattle.apfs_check.proofs.Spent.{sum-both}
use Rattle.apfs_check.proofs.Stopped.{live-root}
use Rattle.apfs_check.proofs.ViewSteps.{ranges-joined}
use Rattle.apfs_check.proofs.ranges.volume_ranges.Goals as goal

pub returns-in-Err-clause-present : goal.returns-in-Err-clause-present
returns-in-Err-clause-present g c profile image told ready =
    let volume = c.args.volume.now in
    let root : c.volume.inside.extents_root ≡ volume.extents_root = ap (λ (v : Loaded). v.extents_root) c.volume.view_is in
    c.in-Err.ensures.present profile image volume.head told ready.newest ready.sound
    (subst (λ r. IsExtentsRoot image c.args.cp.now volume.head r) (sym root) (live-root image c.args.cp.now volume ready))

pub returns-in-Ok-put_past_ranges-clause-clear : goal.returns-in-Ok-put_past_ranges-clause-clear
returns-in-Ok-put_past_ranges-clause-clear g c image told ready =
    let site = site_of c.args.cp.now in
    let volume = c.args.volume.now in
    let root : c.volume.inside.extents_root ≡ volume.extents_root = ap (λ (v : Loaded). v.extents_root) c.volume.view_is in
    let first : c.put_ranges.new.ranges.items ≡ ranges_of image site volume.extents_root =
    c.in-Ok.ensures.clear image told ∙ (ap (λ rs. rs ++ ranges_of image site c.volume.inside.extents_root) c.new-ranges.ensures.items ∙ ap (λ r. ranges_of image site r) root) in
    c.in-Ok-put_past_ranges.ensures.clear image (c.put_ranges.ensures.kept.same_bytes ∙ told)
    ∙ (ap (λ rs. rs ++ flat_map (ranges_of image site) (map snapshot_root volume.snaps)) first ∙ ranges-joined image c.args.cp.now volume ready)

pub returns-in-Err-put_past_ranges-clause-present : goal.returns-in-Err-put_past_ranges-clause-present
returns-in-Err-put_past_ranges-clause-present g c profile image told ready =
    c.in-Err-put_past_ranges.ensures.present profile image (c.put_ranges.ensures.kept.same_bytes ∙ told) ready

pub returns-in-Ok-put_past_ranges-clause-reads : goal.returns-in-Ok-put_past_ranges-clause-reads
returns-in-Ok-put_past_ranges-clause-reads g c image told =
    let reads = g.S.BlockSource.reads in
    let site = site_of c.args.cp.now in
    let volume = c.args.volume.now in
    let root : c.volume.inside.extents_root ≡ volume.extents_root = ap (λ (v : Loaded). v.extents_root) c.volume.view_is in
    sum-both (root_reads image site) volume.extents_root (map snapshot_root volume.snaps) (reads c.args.src.now) (reads c.put_ranges.new.src) (reads c.put_past_ranges.new.src)
    (subst (λ r. reads c.put_ranges.new.src ≤ reads c.args.src.now + root_reads image site r) root (c.in-Ok.ensures.reads image told))
    (c.in-Ok-put_past_ranges.ensures.reads image (c.put_ranges.ensures.kept.same_bytes ∙ told))
