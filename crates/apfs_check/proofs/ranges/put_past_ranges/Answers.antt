use Rattle.std.proofs.Common.{◌≡◌, ◌∙◌, ◌+◌, ◌<◌, ◌≤◌, List, ◌++◌, length, get_or, map, ap, subst, arith}
use Rattle.std.specs.Prelude.{flat_map, sum}
use Rattle.std.proofs.lemmas.List.{take_all}
use Rattle.nx_ring.specs.Checkpoint.{site_of}
use Rattle.vol_view.specs.Volumes.{Loaded}
use Rattle.vol_view.specs.declared.volume.Snapshot.{Snapshot}
use Rattle.ext_ref.specs.Ranges.{ranges_of}
use Rattle.apfs_check.specs.Reads.{root_reads}
use Rattle.apfs_check.specs.Steps.{snapshot_root}
use Rattle.apfs_check.proofs.Adding.{item-in, mapped-more}
use Rattle.apfs_check.proofs.Spent.{roots-more}
use Rattle.apfs_check.proofs.Stopped.{past-root}
use Rattle.apfs_check.proofs.ranges.put_past_ranges.Goals as goal

pub returns-in-Err-clause-present : goal.returns-in-Err-clause-present
returns-in-Err-clause-present g c profile image told ready =
    let i = c.snaps.snapshot-index in
    let snapshot = c.snapshot-item.result in
    let snaps : c.deref-snapshot-items.result.now ≡ c.args.volume.now.snaps = c.deref-snapshot-items.ensures.value ∙ ap (λ (v : Loaded). v.snaps) c.volume.view_is in
    let low : i < length c.args.volume.now.snaps = subst (λ (xs : List Snapshot). i < length xs) snaps (omega arith) in
    let at : snapshot ≡ get_or c.args.volume.now.snaps i snapshot = c.snapshot-item.is ∙ ap (λ xs. get_or xs i snapshot) snaps in
    c.in-Err.ensures.present profile image c.args.volume.now.head (c.snaps.invariant.kept.same_bytes ∙ told) ready.newest ready.sound
    (past-root image c.args.cp.now c.args.volume.now ready snapshot (item-in c.args.volume.now.snaps i snapshot low at))

pub snaps-preserved : goal.snaps-preserved
snaps-preserved g c =
    let reads = g.S.BlockSource.reads in
    let i = c.snaps.snapshot-index in
    let snapshot = c.snapshot-item.result in
    let snaps : c.deref-snapshot-items.result.now ≡ c.args.volume.now.snaps = c.deref-snapshot-items.ensures.value ∙ ap (λ (v : Loaded). v.snaps) c.volume.view_is in
    let low : i < length c.args.volume.now.snaps = subst (λ (xs : List Snapshot). i < length xs) snaps (omega arith) in
    let at : snapshot ≡ get_or c.args.volume.now.snaps i snapshot = c.snapshot-item.is ∙ ap (λ xs. get_or xs i snapshot) snaps in
    record {
      added = λ image told.
          mapped-more (ranges_of image (site_of c.args.cp.now)) snapshot_root c.args.volume.now.snaps i snapshot c.args.ranges.now.items c.snaps.ranges.items c.put_ranges.new.ranges.items low at
          (c.snaps.invariant.added image told) (c.in-Ok.ensures.clear image (c.snaps.invariant.kept.same_bytes ∙ told));
      short = λ old. c.in-Ok.ensures.short (c.snaps.invariant.short old);
      few = λ image told.
          roots-more image (site_of c.args.cp.now) c.args.volume.now.snaps i snapshot (reads c.args.src.now) (reads c.snaps.src) (reads c.put_ranges.new.src) low at (c.snaps.invariant.few image told)
          (c.in-Ok.ensures.reads image (c.snaps.invariant.kept.same_bytes ∙ told));
      kept = record {
        same_bytes = c.put_ranges.ensures.kept.same_bytes ∙ c.snaps.invariant.kept.same_bytes;
        same_size = c.put_ranges.ensures.kept.same_size ∙ c.snaps.invariant.kept.same_size;
        later = omega (arith, c.put_ranges.ensures.kept.later, c.snaps.invariant.kept.later);
      };
    }

pub returns-clause-clear : goal.returns-clause-clear
returns-clause-clear g c image told =
    let i = c.snaps.snapshot-index in
    let snaps : c.deref-snapshot-items.result.now ≡ c.args.volume.now.snaps = c.deref-snapshot-items.ensures.value ∙ ap (λ (v : Loaded). v.snaps) c.volume.view_is in
    let end : length c.args.volume.now.snaps ≤ i = subst (λ (xs : List Snapshot). length xs ≤ i) snaps (omega arith) in
    c.snaps.invariant.added image told ∙ ap (λ xs. c.args.ranges.now.items ++ flat_map (ranges_of image (site_of c.args.cp.now)) (map snapshot_root xs)) (take_all i c.args.volume.now.snaps end)

pub returns-clause-reads : goal.returns-clause-reads
returns-clause-reads g c image told =
    let reads = g.S.BlockSource.reads in
    let i = c.snaps.snapshot-index in
    let snaps : c.deref-snapshot-items.result.now ≡ c.args.volume.now.snaps = c.deref-snapshot-items.ensures.value ∙ ap (λ (v : Loaded). v.snaps) c.volume.view_is in
    let end : length c.args.volume.now.snaps ≤ i = subst (λ (xs : List Snapshot). length xs ≤ i) snaps (omega arith) in
    subst (λ (xs : List Snapshot). reads c.snaps.src ≤ reads c.args.src.now + sum (map (root_reads image (site_of c.args.cp.now)) (map snapshot_root xs))) (take_all i c.args.volume.now.snaps end) (c.snaps.invariant.few image told)
