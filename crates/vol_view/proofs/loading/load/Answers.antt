use Rattle.std.proofs.Common.{◌≡◌, ◌∙◌, ◌≤◌, ◌+◌, [], refl, ap, sym, subst, arith}
use Rattle.obj_base.specs.Stops.{Tells}
use Rattle.nx_ring.specs.Checkpoint.{site_of}
use Rattle.vol_view.specs.Features.{volume_features}
use Rattle.omap_map.specs.Loading.{map_nodes}
use Rattle.vol_view.specs.Fields.{omap_oid_of, snaps_root_of}
use Rattle.vol_view.specs.SnapRecords.{metadata_steps}
use Rattle.vol_view.specs.ReadBound.{metadata_nodes, load_reads}
use Rattle.vol_view.specs.Volumes.{super_of, loaded_by}
use Rattle.vol_view.specs.LoadStops.{IsLoadStop, IsLoadFeature, IsVolumeOf}
use Rattle.vol_view.specs.Gathered.{IsStopOfOne, IsFeatureOfOne, AreSnapshots}
use Rattle.vol_view.proofs.Wholeness.{parts-of, agree-tells, snapshots-tell, parts-volume, made-volume, load-free, free-tells, memory-free, memory-tells}
use Rattle.vol_view.proofs.loading.load.Goals as goal

pub returns-in-Err-clause-present : goal.returns-in-Err-clause-present
returns-in-Err-clause-present g c image told =
    free-tells (IsLoadStop image (site_of c.args.cp.now) c.args.head.now) (IsLoadFeature image (site_of c.args.cp.now) c.args.head.now) c.in-Err.stop c.in-Err.ensures.free

pub returns-in-Err-volume_map-clause-present : goal.returns-in-Err-volume_map-clause-present
returns-in-Err-volume_map-clause-present g c image told =
    let head = c.args.head.now in
    let told1 = c.superblock_of.ensures.kept.same_bytes ∙ told in
    subst (λ s. Tells (IsLoadStop image s head) (IsLoadFeature image s head) c.in-Err-volume_map.stop) c.site-site.ensures
    (c.in-Err-volume_map.ensures.present image told1 head (c.deref-2.ensures.value ∙ c.in-Ok.ensures.found image told))

pub returns-in-Err-volume_map-clause-exact : goal.returns-in-Err-volume_map-clause-exact
returns-in-Err-volume_map-clause-exact g c image told right = load-free image (site_of c.args.cp.now) c.args.head.now c.in-Err-volume_map.stop right (returns-in-Err-volume_map-clause-present g c image told)

pub returns-in-Err-gathered-clause-present : goal.returns-in-Err-gathered-clause-present
returns-in-Err-gathered-clause-present g c image told =
    let head = c.args.head.now in
    let told2 = c.volume_map.ensures.kept.same_bytes ∙ (c.superblock_of.ensures.kept.same_bytes ∙ told) in
    subst (λ s. Tells (IsLoadStop image s head) (IsLoadFeature image s head) c.in-Err-gathered.stop) c.site-site.ensures
    (c.in-Err-gathered.ensures.present image told2 (c.deref-3.ensures.value ∙ c.in-Ok.ensures.found image told))

pub returns-in-Err-gathered-clause-exact : goal.returns-in-Err-gathered-clause-exact
returns-in-Err-gathered-clause-exact g c image told right = load-free image (site_of c.args.cp.now) c.args.head.now c.in-Err-gathered.stop right (returns-in-Err-gathered-clause-present g c image told)

pub returns-in-Err-agree-clause-present : goal.returns-in-Err-agree-clause-present
returns-in-Err-agree-clause-present g c image told =
    let head = c.args.head.now in
    let told1 = c.superblock_of.ensures.kept.same_bytes ∙ told in
    let told2 = c.volume_map.ensures.kept.same_bytes ∙ told1 in
    let kept = c.in-Ok-gathered.metadata in
    let parts = parts-of image c.site-site.result (site_of c.args.cp.now) head c.in-Ok.bytes.items c.deref-2.result.now c.deref-3.result.now c.deref-4.result.now c.in-Ok-volume_map.omap kept.snapshots.items c.deref-5.result.now kept.names.items c.deref-6.result.now
    c.site-site.ensures (c.in-Ok.ensures.found image told) c.deref-2.ensures.value c.deref-3.ensures.value c.deref-4.ensures.value c.deref-5.ensures.value c.deref-6.ensures.value (c.in-Ok-volume_map.ensures.clear image told1) (c.in-Ok-gathered.ensures.clear image told2) in
    agree-tells image (site_of c.args.cp.now) head c.deref-4.result.now c.in-Ok-volume_map.omap c.deref-5.result.now c.deref-6.result.now c.in-Err-agree.stop parts c.in-Err-agree.ensures.present

pub returns-in-Err-agree-clause-exact : goal.returns-in-Err-agree-clause-exact
returns-in-Err-agree-clause-exact g c image told right = load-free image (site_of c.args.cp.now) c.args.head.now c.in-Err-agree.stop right (returns-in-Err-agree-clause-present g c image told)

pub returns-in-Err-snapshots-clause-present : goal.returns-in-Err-snapshots-clause-present
returns-in-Err-snapshots-clause-present g c image told =
    let head = c.args.head.now in
    let told1 = c.superblock_of.ensures.kept.same_bytes ∙ told in
    let told2 = c.volume_map.ensures.kept.same_bytes ∙ told1 in
    let told3 = c.gathered.ensures.kept.same_bytes ∙ told2 in
    let kept = c.in-Ok-gathered.metadata in
    let parts = parts-of image c.site-site.result (site_of c.args.cp.now) head c.in-Ok.bytes.items c.deref-2.result.now c.deref-3.result.now c.deref-4.result.now c.in-Ok-volume_map.omap kept.snapshots.items c.deref-7.result.now kept.names.items c.deref-6.result.now
    c.site-site.ensures (c.in-Ok.ensures.found image told) c.deref-2.ensures.value c.deref-3.ensures.value c.deref-4.ensures.value c.deref-7.ensures.value c.deref-6.ensures.value (c.in-Ok-volume_map.ensures.clear image told1) (c.in-Ok-gathered.ensures.clear image told2) in
    snapshots-tell image (site_of c.args.cp.now) head c.deref-4.result.now c.in-Ok-volume_map.omap c.deref-7.result.now c.deref-6.result.now c.in-Err-snapshots.stop parts
    (subst (λ s. Tells (IsStopOfOne image s c.deref-7.result.now) (IsFeatureOfOne image s c.deref-7.result.now) c.in-Err-snapshots.stop) c.site-site.ensures (c.in-Err-snapshots.ensures.present image told3))

pub returns-in-Err-snapshots-clause-exact : goal.returns-in-Err-snapshots-clause-exact
returns-in-Err-snapshots-clause-exact g c image told right = load-free image (site_of c.args.cp.now) c.args.head.now c.in-Err-snapshots.stop right (returns-in-Err-snapshots-clause-present g c image told)

pub returns-clause-clear : goal.returns-clause-clear
returns-clause-clear g c image told =
    let site = site_of c.args.cp.now in
    let head = c.args.head.now in
    let told1 = c.superblock_of.ensures.kept.same_bytes ∙ told in
    let told2 = c.volume_map.ensures.kept.same_bytes ∙ told1 in
    let told3 = c.gathered.ensures.kept.same_bytes ∙ told2 in
    let kept = c.in-Ok-gathered.metadata in
    let omap = c.in-Ok-volume_map.omap in
    let snaps = c.in-Ok-snapshots.snaps.items in
    let parts = parts-of image c.site-site.result site head c.in-Ok.bytes.items c.deref-2.result.now c.deref-3.result.now c.deref-4.result.now omap kept.snapshots.items c.deref-5.result.now kept.names.items c.deref-6.result.now
    c.site-site.ensures (c.in-Ok.ensures.found image told) c.deref-2.ensures.value c.deref-3.ensures.value c.deref-4.ensures.value c.deref-5.ensures.value c.deref-6.ensures.value (c.in-Ok-volume_map.ensures.clear image told1) (c.in-Ok-gathered.ensures.clear image told2) in
    let plain = subst (λ b. volume_features b ≡ []) (c.deref.ensures.value ∙ sym c.deref-4.ensures.value) c.in-Ok-test.ensures.ok in
    let made = subst (λ s. AreSnapshots image s c.deref-5.result.now snaps) c.site-site.ensures
    (subst (λ rs. AreSnapshots image c.site-site.result rs snaps) (c.deref-7.ensures.value ∙ sym c.deref-5.ensures.value) (c.in-Ok-snapshots.ensures.clear image told3)) in
    let steps = kept.steps.items in
    let taken : steps ≡ metadata_steps image site (snaps_root_of c.deref-4.result.now) = subst (λ s. steps ≡ metadata_steps image s (snaps_root_of c.deref-4.result.now)) c.site-site.ensures
    (c.in-Ok-gathered.ensures.steps image told2 ∙ ap (λ b. metadata_steps image c.site-site.result (snaps_root_of b)) (c.deref-3.ensures.value ∙ sym c.deref-4.ensures.value)) in
    made-volume (IsVolumeOf image site head) c.made.result (loaded_by head c.deref-8.result.now omap steps snaps) c.made.ensures.same
    (subst (λ b. IsVolumeOf image site head (loaded_by head b omap steps snaps)) (c.deref-4.ensures.value ∙ sym c.deref-8.ensures.value)
    (parts-volume image site head c.deref-4.result.now omap c.deref-5.result.now c.deref-6.result.now steps snaps parts plain c.in-Ok-agree.ensures.ok taken made))

pub returns-clause-reads : goal.returns-clause-reads
unfolding load_reads
returns-clause-reads g c image told =
    let site0 = c.site-site.result in
    let site = site_of c.args.cp.now in
    let head = c.args.head.now in
    let told1 = c.superblock_of.ensures.kept.same_bytes ∙ told in
    let told2 = c.volume_map.ensures.kept.same_bytes ∙ told1 in
    let mapped = ap (λ b. map_nodes image site0 (omap_oid_of b)) (c.deref-2.ensures.value ∙ c.in-Ok.ensures.found image told) ∙ ap (λ s. map_nodes image s (omap_oid_of (super_of image s head))) c.site-site.ensures in
    let walked = ap (λ b. metadata_nodes image site0 (snaps_root_of b)) (c.deref-3.ensures.value ∙ c.in-Ok.ensures.found image told) ∙ ap (λ s. metadata_nodes image s (snaps_root_of (super_of image s head))) c.site-site.ensures in
    let snaps = c.in-Ok-snapshots.snaps.items in
    made-volume (λ volume. g.S.BlockSource.reads c.snapshots.new.src ≤ g.S.BlockSource.reads c.args.src.now + load_reads image site head volume.snaps) c.made.result (loaded_by head c.deref-8.result.now c.in-Ok-volume_map.omap c.in-Ok-gathered.metadata.steps.items snaps) c.made.ensures.same
    (omega (arith, mapped, walked, c.superblock_of.ensures.reads, c.in-Ok-volume_map.ensures.reads image told1, c.in-Ok-gathered.ensures.reads image told2, c.in-Ok-snapshots.ensures.reads))

pub returns-in-Err-test-clause-clear : goal.returns-in-Err-test-clause-clear
returns-in-Err-test-clause-clear g c image told = tt

pub returns-in-Err-test-clause-same : goal.returns-in-Err-test-clause-same
returns-in-Err-test-clause-same g c = tt

pub returns-in-Err-test-clause-reads : goal.returns-in-Err-test-clause-reads
returns-in-Err-test-clause-reads g c image told = tt

pub returns-in-Err-volume_map-clause-clear : goal.returns-in-Err-volume_map-clause-clear
returns-in-Err-volume_map-clause-clear g c image told = tt

pub returns-in-Err-volume_map-clause-same : goal.returns-in-Err-volume_map-clause-same
returns-in-Err-volume_map-clause-same g c = tt

pub returns-in-Err-volume_map-clause-reads : goal.returns-in-Err-volume_map-clause-reads
returns-in-Err-volume_map-clause-reads g c image told = tt

pub returns-in-Err-gathered-clause-clear : goal.returns-in-Err-gathered-clause-clear
returns-in-Err-gathered-clause-clear g c image told = tt

pub returns-in-Err-gathered-clause-same : goal.returns-in-Err-gathered-clause-same
returns-in-Err-gathered-clause-same g c = tt

pub returns-in-Err-gathered-clause-reads : goal.returns-in-Err-gathered-clause-reads
returns-in-Err-gathered-clause-reads g c image told = tt

pub returns-in-Err-agree-clause-clear : goal.returns-in-Err-agree-clause-clear
returns-in-Err-agree-clause-clear g c image told = tt

pub returns-in-Err-agree-clause-same : goal.returns-in-Err-agree-clause-same
returns-in-Err-agree-clause-same g c = tt

pub returns-in-Err-agree-clause-reads : goal.returns-in-Err-agree-clause-reads
returns-in-Err-agree-clause-reads g c image told = tt

pub returns-in-Err-snapshots-clause-clear : goal.returns-in-Err-snapshots-clause-clear
returns-in-Err-snapshots-clause-clear g c image told = tt

pub returns-in-Err-snapshots-clause-same : goal.returns-in-Err-snapshots-clause-same
returns-in-Err-snapshots-clause-same g c = tt

pub returns-in-Err-snapshots-clause-reads : goal.returns-in-Err-snapshots-clause-reads
returns-in-Err-snapshots-clause-reads g c image told = tt

pub returns-in-Err-clause-exact : goal.returns-in-Err-clause-exact
returns-in-Err-clause-exact g c image told right = c.in-Err.ensures.free

pub returns-clause-same : goal.returns-clause-same
returns-clause-same g c =
    made-volume (λ volume. volume.head ≡ c.args.head.now) c.made.result (loaded_by c.args.head.now c.deref-8.result.now c.in-Ok-volume_map.omap c.in-Ok-gathered.metadata.steps.items c.in-Ok-snapshots.snaps.items) c.made.ensures.same refl

pub returns-clause-exact : goal.returns-clause-exact
returns-clause-exact g c image told right = memory-free c.made.result c.made.ensures.memory_only

pub returns-clause-present : goal.returns-clause-present
returns-clause-present g c image told =
    memory-tells (IsLoadStop image (site_of c.args.cp.now) c.args.head.now) (IsLoadFeature image (site_of c.args.cp.now) c.args.head.now) c.made.result c.made.ensures.memory_only
