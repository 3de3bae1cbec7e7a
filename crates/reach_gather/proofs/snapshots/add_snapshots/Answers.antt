use Rattle.std.proofs.Common.{◌≡◌, ◌∙◌, ℕ, ◌+◌, ◌<◌, ◌≤◌, List, length, get_or, Some, ap, refl, sym, subst, arith}
use Rattle.std.proofs.lemmas.List.{take_all}
use Rattle.std.proofs.lemmas.Option.{slice_get-get_or}
use Rattle.apfs_model.specs.Lists.{In}
use Rattle.fs_name.specs.Normal.{are_hashed}
use Rattle.vol_view.specs.Volumes.{Loaded}
use Rattle.vol_view.specs.declared.volume.Snapshot.{Snapshot}
use Rattle.reach_rules.specs.declared.naming.ViewAt.{ViewAt}
use Rattle.reach_gather.specs.Volumes.Told.{past_at, told_snapshot, told_snapshots}
use Rattle.space_pool.proofs.Indexes.{kept-then}
use Rattle.reach_gather.specs.Adds.{Adds}
use Rattle.reach_gather.specs.Views.{IsSuperPart, pasts_namings}
use Rattle.reach_gather.proofs.Growing.{adds-none}
use Rattle.reach_gather.proofs.Pasts.{pasts-next, told-at}
use Rattle.reach_gather.proofs.snapshots.add_snapshots.Goals as goal

pub loop-i-init : goal.loop-i-init
loop-i-init g c = record {
  kept = record { same_bytes = refl; same_size = refl; later = omega arith };
  adds = λ image told parts. adds-none image c.args.cp.now c.args.out.now;
  reads = λ image told. omega arith;
}

pub returns-in-Err-clause-present : goal.returns-in-Err-clause-present
returns-in-Err-clause-present g c = λ image told live.
    let x : Snapshot = c.index-snapshots-i.result in
    let slot : ℕ = c.args.volume.now.head.slot in
    let view : c.view_at-view.result ≡ past_at slot c.args.map (are_hashed c.args.volume.now.names) c.loop-i.i x = c.view_at-view.ensures in
    let snaps : c.as_slice-snapshots.result.now ≡ c.args.volume.now.snaps = c.as_slice-snapshots.ensures.value ∙ ap (λ (v : Loaded). v.snaps) c.volume.view_is in
    c.in-Err.ensures.present image (c.loop-i.invariant.kept.same_bytes ∙ told)
    (λ n h. live n (subst (λ xs. In n (told_snapshots slot c.args.map (are_hashed c.args.volume.now.names) 0 xs)) snaps
    (told-at slot c.args.map (are_hashed c.args.volume.now.names) 0 c.as_slice-snapshots.result.now c.loop-i.i x n c.loop-i-test.true (sym c.index-snapshots-i.is)
    (subst (λ (v : ViewAt). In n (told_snapshot v x)) (view ∙ ap (λ j. past_at slot c.args.map (are_hashed c.args.volume.now.names) j x) (let e : c.loop-i.i ≡ 0 + c.loop-i.i = omega arith in e)) h))))

pub loop-i-preserved : goal.loop-i-preserved
loop-i-preserved g c = record {
  kept = kept-then g.S.BlockSource.bytes g.S.BlockSource.bytes_len g.S.BlockSource.faults c.args.src.now c.loop-i.src c.add_snapshot.new.src c.loop-i.invariant.kept c.add_snapshot.ensures.kept;
  adds = λ image told parts.
      let x : Snapshot = c.index-snapshots-i.result in
      let slot : ℕ = c.args.volume.now.head.slot in
      let hashed = are_hashed c.args.volume.now.names in
      let view : c.view_at-view.result ≡ past_at slot c.args.map hashed c.loop-i.i x = c.view_at-view.ensures in
      let snaps : c.as_slice-snapshots.result.now ≡ c.args.volume.now.snaps = c.as_slice-snapshots.ensures.value ∙ ap (λ (v : Loaded). v.snaps) c.volume.view_is in
      let low : c.loop-i.i < length c.args.volume.now.snaps = subst (λ (xs : List Snapshot). c.loop-i.i < length xs) snaps c.loop-i-test.true in
      let is : get_or c.args.volume.now.snaps c.loop-i.i x ≡ x = subst (λ (xs : List Snapshot). get_or xs c.loop-i.i x ≡ x) snaps (sym c.index-snapshots-i.is) in
      let part : IsSuperPart image c.args.cp.now (past_at slot c.args.map hashed c.loop-i.i x) x = parts c.loop-i.i x (slice_get-get_or c.args.volume.now.snaps c.loop-i.i x low ∙ ap (λ y. Some y) is) in
      pasts-next image c.args.cp.now slot c.args.map hashed c.args.volume.now.snaps c.loop-i.i x c.view_at-view.result c.args.out.now c.loop-i.out c.add_snapshot.new.out low is view (c.loop-i.invariant.adds image told parts)
      (c.in-Ok.ensures.clear image (c.loop-i.invariant.kept.same_bytes ∙ told) (subst (λ (v : ViewAt). IsSuperPart image c.args.cp.now v x) (sym view) part));
  reads = λ image told.
      let before : g.S.BlockSource.reads c.loop-i.src + length c.args.out.now.namings ≤ g.S.BlockSource.reads c.args.src.now + length c.loop-i.out.namings = c.loop-i.invariant.reads image told in
      let one : g.S.BlockSource.reads c.add_snapshot.new.src + length c.loop-i.out.namings ≤ g.S.BlockSource.reads c.loop-i.src + length c.add_snapshot.new.out.namings = c.in-Ok.ensures.reads image (c.loop-i.invariant.kept.same_bytes ∙ told) in
      omega (arith, before, one);
}

pub returns-clause-clear : goal.returns-clause-clear
returns-clause-clear g c = λ image told parts.
    let slot : ℕ = c.args.volume.now.head.slot in
    let hashed = are_hashed c.args.volume.now.names in
    let snaps : c.as_slice-snapshots.result.now ≡ c.args.volume.now.snaps = c.as_slice-snapshots.ensures.value ∙ ap (λ (v : Loaded). v.snaps) c.volume.view_is in
    let high : length c.args.volume.now.snaps ≤ c.loop-i.i = subst (λ (xs : List Snapshot). length xs ≤ c.loop-i.i) snaps c.loop-i-test.false in
    subst (λ (xs : List Snapshot). Adds image c.args.cp.now (told_snapshots slot c.args.map hashed 0 xs) (pasts_namings slot c.args.map hashed 0 xs) c.args.out.now c.loop-i.out) (take_all c.loop-i.i c.args.volume.now.snaps high) (c.loop-i.invariant.adds image told parts)
