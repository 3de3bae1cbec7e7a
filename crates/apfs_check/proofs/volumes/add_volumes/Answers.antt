use Rattle.std.proofs.Common.{◌≡◌, ◌∙◌, ◌+◌, ◌<◌, ◌≤◌, List, ◌∷◌, ◌++◌, [], length, map, take, sym, ap, subst, arith}
use Rattle.std.specs.Prelude.{sum}
use Rattle.std.proofs.lemmas.List.{map-append, take_all}
use Rattle.vol_view.specs.Volumes.{Loaded}
use Rattle.reach_sweep.specs.Views.{head_of}
use Rattle.apfs_check.specs.Held.{AddsVolumes}
use Rattle.apfs_check.specs.Reads.{volume_reads}
use Rattle.apfs_check.proofs.Adding.{item-in, one-taken, more-volumes}
use Rattle.apfs_check.proofs.Spent.{sum-taken}
use Rattle.apfs_check.proofs.Stopped.{one-ready}
use Rattle.apfs_check.proofs.volumes.add_volumes.Goals as goal

pub returns-in-Err-clause-present : goal.returns-in-Err-clause-present
returns-in-Err-clause-present g c image told are =
    let volumes = c.args.volumes.now in
    let i = c.volumes.volume-index in
    let volume = c.volume-item.result in
    let low : i < length volumes = omega arith in
    c.in-Err.ensures.present image (c.volumes.invariant.kept.same_bytes ∙ told) (one-ready image c.args.cp.now volumes are volume (item-in volumes i volume low c.volume-item.is))

pub volumes-preserved : goal.volumes-preserved
volumes-preserved g c =
    let reads = g.S.BlockSource.reads in
    let seen = c.args.cp.now in
    let volumes = c.args.volumes.now in
    let i = c.volumes.volume-index in
    let volume = c.volume-item.result in
    let low : i < length volumes = omega arith in
    let heads : map head_of (take i volumes) ++ volume.head ∷ [] ≡ map head_of (take (i + 1) volumes) =
    sym (map-append head_of (take i volumes) (volume ∷ [])) ∙ ap (map head_of) (sym (one-taken volumes i volume low c.volume-item.is)) in
    record {
      added = λ image told are.
          let ready = one-ready image seen volumes are volume (item-in volumes i volume low c.volume-item.is) in
          subst (λ hs. AddsVolumes c.args.profile image seen hs c.args.out.now c.add_volume.new.out) heads
          (more-volumes c.args.profile image seen (map head_of (take i volumes)) (volume.head ∷ []) c.args.out.now c.volumes.out c.add_volume.new.out
          (c.volumes.invariant.added image told are) (c.in-Ok.ensures.clear image (c.volumes.invariant.kept.same_bytes ∙ told) ready));
      few = λ image told.
          sum-taken (volume_reads image seen) volumes i volume (reads c.args.src.now) (reads c.volumes.src) (reads c.add_volume.new.src) low c.volume-item.is (c.volumes.invariant.few image told) (c.in-Ok.ensures.reads image (c.volumes.invariant.kept.same_bytes ∙ told));
      kept = record {
        same_bytes = c.add_volume.ensures.kept.same_bytes ∙ c.volumes.invariant.kept.same_bytes;
        same_size = c.add_volume.ensures.kept.same_size ∙ c.volumes.invariant.kept.same_size;
        later = omega (arith, c.add_volume.ensures.kept.later, c.volumes.invariant.kept.later);
      };
    }

pub returns-clause-reads : goal.returns-clause-reads
returns-clause-reads g c image told =
    let reads = g.S.BlockSource.reads in
    let volumes = c.args.volumes.now in
    let i = c.volumes.volume-index in
    let end : length volumes ≤ i = omega (arith, c.volumes-test.false) in
    subst (λ (vs : List Loaded). reads c.volumes.src ≤ reads c.args.src.now + sum (map (volume_reads image c.args.cp.now) vs)) (take_all i volumes end) (c.volumes.invariant.few image told)
