use Rattle.std.proofs.Common.{◌∙◌, ◌++◌, ap}
use Rattle.std.specs.Prelude.{option_map}
use Rattle.std.proofs.lemmas.List.Elements.{filter_map-append}
use Rattle.bt_cursor.specs.Gathered.{shown}
use Rattle.omap_map.specs.Records.{snapshot_of, snapshots_of}
use Rattle.omap_map.proofs.Kept.{gives-more}
use Rattle.omap_map.proofs.keep.SnapshotsKeeperOmapSnapKey.keep.Goals as goal

pub returns-clause-held : goal.returns-clause-held
returns-clause-held c items had kept =
    let item = shown c.args.item.node c.args.item.at c.args.item.level c.args.item.pair.key_bytes.now (option_map (λ value. value.now) c.args.item.pair.value) in
    gives-more snapshots_of (filter_map-append snapshot_of) c.args.self.now.snapshots.items c.add-2.new.gathered.items c.args.self.now.steps.items c.add.new.gathered.items items item had
    (c.in_ok-add-2.ensures ∙ ap (λ xs. c.args.self.now.snapshots.items ++ xs) c.snapshot_in.ensures)
    (c.in_ok-add.ensures ∙ ap (λ xs. c.args.self.now.steps.items ++ xs) c.step.ensures)
