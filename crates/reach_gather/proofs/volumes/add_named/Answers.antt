use Rattle.std.proofs.Common.{◌≡◌, ◌∙◌, ◌++◌, List, [], ◌∷◌, ap, sym, subst, ◌+◌, ◌≤◌, length, arith}
use Rattle.fs_name.specs.Normal.{are_hashed}
use Rattle.nx_ring.specs.Checkpoint.{Seen, site_of}
use Rattle.omap_map.specs.Maps.{contents_of}
use Rattle.vol_view.specs.Volumes.{Loaded}
use Rattle.reach_rules.specs.declared.naming.LookUp.TheVariants.{ByBlock}
use Rattle.reach_rules.specs.declared.naming.Namer.{Namer}
use Rattle.reach_rules.specs.declared.naming.TreeKind.TheVariants.{ExtentRefs, SnapMetadata}
use Rattle.reach_rules.specs.declared.naming.Expected.TheVariants.{TreeRoot}
use Rattle.reach_rules.specs.declared.naming.Naming.{Naming}
use Rattle.reach_rules.specs.Next.{unless_zero}
use Rattle.reach_gather.specs.Volumes.Parts.{IsMapPart}
use Rattle.reach_gather.specs.Volumes.Told.{map_of, map_in_volume, told_view, live_at, told_snapshots}
use Rattle.reach_gather.specs.Adds.{Adds}
use Rattle.reach_gather.specs.Held.{Held}
use Rattle.reach_gather.specs.Views.{AreSuperParts, pasts_namings}
use Rattle.reach_gather.proofs.Growing.{adds-left, adds-join}
use Rattle.reach_gather.proofs.Noted.{noted-longer, kept-on, no-err}
use Rattle.reach_gather.proofs.volumes.add_named.Goals as goal

pub returns-in-Ok-add_snapshots : goal.returns-in-Ok-add_snapshots
returns-in-Ok-add_snapshots g c = record {
  clear = (λ image told parts.
      let seen : Seen = c.args.cp.now in
      let volume : Loaded = c.args.volume.now in
      let me : Namer = c.args.namer in
      let em : c.block-map.result ≡ map_of volume = c.block-map.ensures ∙ ap (λ (v : Loaded). v.omap.block) c.volume.view_is in
      let a : Held = c.args.out.now in
      let b : Held = c.add_map.new.out in
      let m : Held = c.add_live_extents.new.out in
      let d : Held = c.add_live_metadata.new.out in
      let e : Held = c.add_snapshots.new.out in
      let later = c.in-Ok.ensures.kept.same_bytes ∙ told in
      let view : List Naming = told_view me (live_at seen volume.head.slot (map_of volume) (are_hashed volume.names)) volume.root_oid volume.meta_ext in
      let pasts : List Naming = pasts_namings volume.head.slot (map_of volume) (are_hashed volume.names) 0 volume.snaps in
      let snaps : List Naming = told_snapshots volume.head.slot (map_of volume) (are_hashed volume.names) 0 volume.snaps in
      let one : Adds image seen (map_in_volume me (map_of volume) ∷ []) [] a b =
      subst (λ x. Adds image seen (map_in_volume me x ∷ []) [] a b) em (c.in_ok-add_map.ensures.clear image seen (subst (λ x. IsMapPart image seen (map_in_volume me x)) (sym em) parts.map) (ap (λ (v : Loaded). v.omap) c.volume.view_is ∙ (parts.contents ∙ ap (contents_of image (site_of seen)) (sym em)))) in
      let two : Adds image seen (unless_zero me 144 (TreeRoot ExtentRefs) ByBlock volume.extents_root) [] b m =
      subst (λ x. Adds image seen (unless_zero me 144 (TreeRoot ExtentRefs) ByBlock x) [] b m) (ap (λ (v : Loaded). v.extents_root) c.volume.view_is) (c.in-Ok.ensures.clear image told) in
      let three : Adds image seen (unless_zero me 152 (TreeRoot SnapMetadata) ByBlock volume.snaps_root) [] m d = c.in_ok-add_live_metadata.ensures.clear image seen parts.metadata in
      let four : Adds image seen snaps pasts d e =
      subst (λ x. Adds image seen (told_snapshots volume.head.slot x (are_hashed volume.names) 0 volume.snaps) (pasts_namings volume.head.slot x (are_hashed volume.names) 0 volume.snaps) d e) em
      (c.in-Ok-add_snapshots.ensures.clear image later (subst (λ x. AreSuperParts image seen volume x) (sym em) parts.snapshots)) in
      let ext : List Naming = unless_zero me 144 (TreeRoot ExtentRefs) ByBlock volume.extents_root in
      let meta : List Naming = unless_zero me 152 (TreeRoot SnapMetadata) ByBlock volume.snaps_root in
      adds-join image seen (map_in_volume me (map_of volume) ∷ []) (view ++ (ext ++ (meta ++ snaps))) [] (view ++ pasts) a b e one
      (adds-join image seen view (ext ++ (meta ++ snaps)) view pasts b b e (adds-left image seen view b)
      (adds-join image seen ext (meta ++ snaps) [] pasts b m e two (adds-join image seen meta snaps [] pasts m d e three four))));
  present = λ image told parts live. tt;
  reads = (λ image told.
      let map : length c.args.out.now.namings ≤ length c.add_map.new.out.namings = noted-longer c.args.out.now.namings c.add_map.new.out.namings _ c.in_ok-add_map.ensures.namings in
      let extents : g.S.BlockSource.reads c.add_live_extents.new.src + length c.add_map.new.out.namings ≤ g.S.BlockSource.reads c.args.src.now + length c.add_live_extents.new.out.namings = c.in-Ok.ensures.reads image told in
      let metadata : length c.add_live_extents.new.out.namings ≤ length c.add_live_metadata.new.out.namings = c.in_ok-add_live_metadata.ensures.longer in
      let snapshots : g.S.BlockSource.reads c.add_snapshots.new.src + length c.add_live_metadata.new.out.namings ≤ g.S.BlockSource.reads c.add_live_extents.new.src + length c.add_snapshots.new.out.namings = c.in-Ok-add_snapshots.ensures.reads image (c.in-Ok.ensures.kept.same_bytes ∙ told) in
      omega (arith, map, extents, metadata, snapshots));
  cause = λ e. absurd (no-err _ _ e);
  kept = kept-on g.S.BlockSource.bytes g.S.BlockSource.bytes_len g.S.BlockSource.faults c.args.src.now c.add_live_extents.new.src c.add_snapshots.new.src c.add_live_extents.ensures.kept c.add_snapshots.ensures.kept;
}
