use Rattle.std.proofs.Common.{◌≡◌, ◌∙◌, ap, sym, subst, ◌+◌, ◌≤◌, length, arith}
use Rattle.nx_block.specs.Super.{omap_oid_of}
use Rattle.nx_ring.specs.Checkpoint.{Seen}
use Rattle.vol_view.specs.Volumes.{Loaded}
use Rattle.reach_rules.specs.declared.naming.Object.TheVariants.{OfRecord}
use Rattle.reach_rules.specs.declared.naming.Namer.{Namer}
use Rattle.reach_rules.specs.declared.naming.Namer.TheVariants.{Whole}
use Rattle.reach_gather.specs.Volumes.Parts.{IsMapPart, volume_namer}
use Rattle.reach_gather.specs.Volumes.Told.{head_naming, map_of, map_in_volume, told_volume}
use Rattle.reach_gather.specs.Adds.{AreLive}
use Rattle.reach_gather.proofs.Fields.{led-to}
use Rattle.reach_gather.proofs.Slots.{record-found, never-lost, found-one, namer-is, volume-adds}
use Rattle.reach_gather.proofs.Noted.{noted-one, no-err, same-err}
use Rattle.reach_gather.proofs.volumes.add_volume.Goals as goal

pub returns-in-None-clause-present : goal.returns-in-None-clause-present
returns-in-None-clause-present g c = λ image told all part live.
    absurd (never-lost c.record.result part.mapping c.in-None.is
    (record-found image c.args.cp.now c.args.volume.now c.args.omap.now.records c.volume.inside.head.oid c.xid.result c.record.result part all (ap (λ (v : Loaded). v.head.oid) c.volume.view_is) c.xid.ensures c.record.ensures))

pub returns-in-Err : goal.returns-in-Err
returns-in-Err g c = record {
  clear = λ image told all part. tt;
  present = (λ image told all part live.
      let seen : Seen = c.args.cp.now in
      let volume : Loaded = c.args.volume.now in
      let found = record-found image seen volume c.args.omap.now.records c.volume.inside.head.oid c.xid.result c.record.result part all (ap (λ (v : Loaded). v.head.oid) c.volume.view_is) c.xid.ensures c.record.ensures in
      let one : c.in-Some.found ≡ part.mapping = found-one c.record.result c.in-Some.found part.mapping c.in-Some.is found in
      let named : Whole (OfRecord c.omap_oid-map.result c.in-Some.found) ≡ volume_namer seen part.mapping = namer-is seen c.omap_oid-map.result c.in-Some.found part.mapping (c.omap_oid-map.ensures ∙ ap omap_oid_of c.nx.ensures) one in
      c.in-Err.ensures.present image told (record {
        map = subst (λ (n : Namer). IsMapPart image seen (map_in_volume n (map_of volume))) (sym named) part.map;
        contents = part.contents;
        snapshots = λ i snapshot at. let s = part.snapshots i snapshot at in record { plain = s.plain; leads = s.leads };
        metadata = part.metadata;
      })
      (subst (λ (n : Namer). AreLive image seen (told_volume seen n volume)) (sym named) (led-to image seen (head_naming volume.head) (told_volume seen (volume_namer seen part.mapping) volume) live part.leads)));
  reads = λ image told. tt;
  cause = λ e. c.in-Err.ensures.cause (same-err c.in-Err.stop _ e);
  kept = c.add_named.ensures.kept;
}

pub returns-in-Ok : goal.returns-in-Ok
returns-in-Ok g c = record {
  clear = (λ image told all part.
      let seen : Seen = c.args.cp.now in
      let volume : Loaded = c.args.volume.now in
      let found = record-found image seen volume c.args.omap.now.records c.volume.inside.head.oid c.xid.result c.record.result part all (ap (λ (v : Loaded). v.head.oid) c.volume.view_is) c.xid.ensures c.record.ensures in
      let one : c.in-Some.found ≡ part.mapping = found-one c.record.result c.in-Some.found part.mapping c.in-Some.is found in
      let named : Whole (OfRecord c.omap_oid-map.result c.in-Some.found) ≡ volume_namer seen part.mapping = namer-is seen c.omap_oid-map.result c.in-Some.found part.mapping (c.omap_oid-map.ensures ∙ ap omap_oid_of c.nx.ensures) one in
      volume-adds image seen volume _ c.omap_oid-map.result c.in-Some.found c.args.out.now c.note_record.new.self c.add_named.new.out part c.named.ensures (c.omap_oid-map.ensures ∙ ap omap_oid_of c.nx.ensures) one
      c.in_ok-note_record.ensures.namings c.in_ok-note_record.ensures.owners c.note_record.ensures.pool_owners
      (c.in-Ok.ensures.clear image told (record {
        map = subst (λ (n : Namer). IsMapPart image seen (map_in_volume n (map_of volume))) (sym named) part.map;
        contents = part.contents;
        snapshots = λ i snapshot at. let s = part.snapshots i snapshot at in record { plain = s.plain; leads = s.leads };
        metadata = part.metadata;
      })));
  present = λ image told all part live. tt;
  reads = (λ image told.
      let one : length c.note_record.new.self.namings ≡ length c.args.out.now.namings + 1 = noted-one c.args.out.now.namings c.note_record.new.self.namings c.named.result c.in_ok-note_record.ensures.namings in
      let more : g.S.BlockSource.reads c.add_named.new.src + length c.note_record.new.self.namings ≤ g.S.BlockSource.reads c.args.src.now + length c.add_named.new.out.namings = c.in-Ok.ensures.reads image told in
      omega (arith, one, more));
  cause = λ e. absurd (no-err _ _ e);
  kept = c.add_named.ensures.kept;
}
