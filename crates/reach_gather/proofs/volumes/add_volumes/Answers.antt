use Rattle.std.proofs.Common.{◌∙◌, ◌+◌, ◌≤◌, List, [], ◌∷◌, length, refl, sym, subst, arith}
use Rattle.std.proofs.lemmas.List.{take_all}
use Rattle.apfs_model.specs.Lists.{In}
use Rattle.nx_ring.specs.Checkpoint.{Seen}
use Rattle.vol_view.specs.Volumes.{Loaded}
use Rattle.reach_rules.specs.declared.naming.Namer.{Namer}
use Rattle.reach_gather.specs.Volumes.Told.{head_naming}
use Rattle.space_pool.proofs.Indexes.{kept-then}
use Rattle.reach_gather.specs.Adds.{Adds}
use Rattle.reach_gather.specs.Views.{volume_views, slots_namings, loaded_views}
use Rattle.reach_gather.proofs.Slots.{volumes-next, volume-in, slot-in}
use Rattle.reach_gather.proofs.Growing.{adds-none}
use Rattle.reach_gather.proofs.volumes.add_volumes.Goals as goal

pub returns-in-Err-clause-present : goal.returns-in-Err-clause-present
returns-in-Err-clause-present g c = λ image namer told all parts live.
    let x : Loaded = c.volume-item.result in
    let one : In x c.args.volumes.now = volume-in c.args.volumes.now c.loop-volume.volume-index x c.loop-volume-test.true (sym c.volume-item.is) in
    c.in-Err.ensures.present image (c.loop-volume.invariant.kept.same_bytes ∙ told) all (parts x one).0 (live (head_naming x.head) (slot-in c.args.volumes.now x one))

pub loop-volume-preserved : goal.loop-volume-preserved
loop-volume-preserved g c = record {
  kept = kept-then g.S.BlockSource.bytes g.S.BlockSource.bytes_len g.S.BlockSource.faults c.args.src.now c.loop-volume.src c.add_volume.new.src c.loop-volume.invariant.kept c.add_volume.ensures.kept;
  adds = λ image namer told all parts.
      let seen : Seen = c.args.cp.now in
      let x : Loaded = c.volume-item.result in
      let one : In x c.args.volumes.now = volume-in c.args.volumes.now c.loop-volume.volume-index x c.loop-volume-test.true (sym c.volume-item.is) in
      let part = parts x one in
      volumes-next image seen namer c.args.volumes.now c.loop-volume.volume-index x c.args.out.now c.loop-volume.out c.add_volume.new.out c.loop-volume-test.true (sym c.volume-item.is) (c.loop-volume.invariant.adds image namer told all parts)
      (subst (λ (n : Namer). Adds image seen (head_naming x.head ∷ []) (volume_views seen n x) c.loop-volume.out c.add_volume.new.out) (sym part.1) (c.in-Ok.ensures.clear image (c.loop-volume.invariant.kept.same_bytes ∙ told) all part.0));
  reads = λ image told.
      let before : g.S.BlockSource.reads c.loop-volume.src + length c.args.out.now.namings ≤ g.S.BlockSource.reads c.args.src.now + length c.loop-volume.out.namings = c.loop-volume.invariant.reads image told in
      let one : g.S.BlockSource.reads c.add_volume.new.src + length c.loop-volume.out.namings ≤ g.S.BlockSource.reads c.loop-volume.src + length c.add_volume.new.out.namings = c.in-Ok.ensures.reads image (c.loop-volume.invariant.kept.same_bytes ∙ told) in
      omega (arith, before, one);
}

pub returns-clause-clear : goal.returns-clause-clear
returns-clause-clear g c = λ image namer told all parts.
    subst (λ (xs : List Loaded). Adds image c.args.cp.now (slots_namings xs) (loaded_views c.args.cp.now namer xs) c.args.out.now c.loop-volume.out) (take_all c.loop-volume.volume-index c.args.volumes.now c.loop-volume-test.false) (c.loop-volume.invariant.adds image namer told all parts)

pub loop-volume-init : goal.loop-volume-init
loop-volume-init g c = record {
  kept = record { same_bytes = refl; same_size = refl; later = omega arith };
  adds = λ image namer told all parts. adds-none image c.args.cp.now c.args.out.now;
  reads = λ image told. omega arith;
}
