use Rattle.std.proofs.Common.{◌≡◌, ◌∙◌, ◌++◌, sym, ap, subst}
use Rattle.std.specs.Prelude.{option_map}
use Rattle.bt_cursor.specs.WholeTree.{leaf_pairs}
use Rattle.bt_cursor.specs.Gathered.{shown}
use Rattle.vol_view.specs.Gathered.{Tell}
use Rattle.vol_view.proofs.Gatherings.{gives-more}
use Rattle.vol_view.proofs.metadata.MetadataKeeperSnapKey.keep.Goals as goal

pub returns-clause-held : goal.returns-clause-held
returns-clause-held c items had =
    let item = shown c.args.item.node c.args.item.at c.args.item.level c.args.item.pair.key_bytes.now (option_map (λ value. value.now) c.args.item.pair.value) in
    let old = c.args.self.now in
    let mid = c.note.new.self in
    let new = c.keep_record.new.self in
    let told : Tell (leaf_pairs items) mid.snapshots.items mid.names.items =
    subst (λ ss. Tell (leaf_pairs items) ss mid.names.items) (sym c.note.ensures.snapshots) (subst (λ ns. Tell (leaf_pairs items) old.snapshots.items ns) (sym c.note.ensures.names) had.told) in
    gives-more c.keep_record.result items item old.snapshots.items new.snapshots.items old.names.items new.names.items old.steps.items new.steps.items had
    (c.keep_record.ensures.taken ∙ (c.in_ok-note.ensures.more ∙ ap (λ xs. old.steps.items ++ xs) c.step.ensures))
    (c.keep_record.ensures.held items told)
