use Rattle.std.proofs.Common.{◌≡◌, ◌++◌, subst, arith, option_map, option_to_list, IfOk}
use Rattle.std.specs.Prelude.{is_some}
use Rattle.vol_view.specs.Gathered.{snapshot_read, name_read}
use Rattle.vol_view.proofs.Gatherings.{key-named, snapshot-held, name-held}
use Rattle.vol_view.proofs.metadata.Metadata.keep_record.Goals as goal

pub keep_name-requires : goal.keep_name-requires
keep_name-requires c = key-named c.args.item.pair.key_bytes.now c.args.item.pair.key c.requires c.if-item-eq-SNAPSHOT_NAME.true

pub returns-then-item-eq-SNAPSHOT-clause-held : goal.returns-then-item-eq-SNAPSHOT-clause-held
returns-then-item-eq-SNAPSHOT-clause-held c items had =
    let low : c.args.item.level ≡ 0 = omega arith in
    let old = c.args.self.now in
    let new = c.keep_snapshot.new.self in
    let k = c.args.item.pair.key in
    let bytes = c.value_bytes-value.ensures in
    snapshot-held c.keep_snapshot.result items c.args.item.node c.args.item.at c.args.item.level c.args.item.pair.key_bytes.now (option_map (λ value. value.now) c.args.item.pair.value) k old.snapshots.items new.snapshots.items old.names.items new.names.items low c.requires c.if-item-eq-SNAPSHOT.true
    (subst (λ v. IfOk c.keep_snapshot.result (λ kept. kept ≡ is_some (snapshot_read k.id v))) bytes c.keep_snapshot.ensures.refused)
    (subst (λ v. IfOk c.keep_snapshot.result (λ kept. new.snapshots.items ≡ old.snapshots.items ++ option_to_list (snapshot_read k.id v))) bytes c.keep_snapshot.ensures.more)
    c.keep_snapshot.ensures.same had

pub returns-then-item-eq-SNAPSHOT_NAME-clause-held : goal.returns-then-item-eq-SNAPSHOT_NAME-clause-held
returns-then-item-eq-SNAPSHOT_NAME-clause-held c items had =
    let low : c.args.item.level ≡ 0 = omega arith in
    let old = c.args.self.now in
    let new = c.keep_name.new.self in
    let k = c.args.item.pair.key in
    let key = c.args.item.pair.key_bytes.now in
    let bytes = c.value_bytes-value.ensures in
    name-held c.keep_name.result items c.args.item.node c.args.item.at c.args.item.level key (option_map (λ value. value.now) c.args.item.pair.value) k old.snapshots.items new.snapshots.items old.names.items new.names.items low c.requires c.if-item-eq-SNAPSHOT_NAME.true
    (subst (λ v. IfOk c.keep_name.result (λ kept. kept ≡ is_some (name_read key v))) bytes c.keep_name.ensures.refused)
    (subst (λ v. IfOk c.keep_name.result (λ kept. new.names.items ≡ old.names.items ++ option_to_list (name_read key v))) bytes c.keep_name.ensures.more)
    c.keep_name.ensures.same had
