use Rattle.std.proofs.Common.{◌≡◌, ◌∙◌, true, false, sym, ap, subst, map}
use Rattle.std.specs.Prelude.{Bool, ◌&&◌, IfNone, IfSome}
use Rattle.std.specs.List.{list_all}
use Rattle.apfs_model.specs.Lists.{are_distinct}
use Rattle.vol_view.specs.Named.{IsIndex, is_told}
use Rattle.vol_view.specs.declared.records.SnapshotRecord.{SnapshotRecord}
use Rattle.vol_view.specs.declared.records.NameRecord.{NameRecord}
use Rattle.vol_view.proofs.Indexes.{same-snapshots-twice, same-names-twice, snapshots_known, names_known, same-both}
use Rattle.vol_view.proofs.named.are_named.Goals as goal
use Rattle.vol_view.proofs.named.are_named.Goals.{then-all_in, else-all_in}

pub returns-in-None-clause-same : goal.returns-in-None-clause-same
returns-in-None-clause-same c =
    same-snapshots-twice c.args.snapshots.now c.args.names.now
    (subst (λ o. IfNone o (are_distinct (map (λ (s : SnapshotRecord). s.name) c.args.snapshots.now) ≡ false)) c.in-None.is c.in_ok-of_snapshots.ensures.twice)

pub returns-in-None-of_names-clause-same : goal.returns-in-None-of_names-clause-same
returns-in-None-of_names-clause-same c =
    same-names-twice c.args.snapshots.now c.args.names.now
    (subst (λ o. IfNone o (are_distinct (map (λ (n : NameRecord). n.name) c.args.names.now) ≡ false)) c.in-None-of_names.is c.in_ok-of_names.ensures.twice)

pub returns-clause-same : goal.returns-clause-same
returns-clause-same c =
    let ss = c.args.snapshots.now in
    let ns = c.args.names.now in
    let one = subst (λ o. IfSome o (λ _. are_distinct (map (λ (s : SnapshotRecord). s.name) ss) ≡ true)) c.in-Some.is c.in_ok-of_snapshots.ensures.once in
    let two = subst (λ o. IfSome o (λ _. are_distinct (map (λ (n : NameRecord). n.name) ns) ≡ true)) c.in-Some-of_names.is c.in_ok-of_names.ensures.once in
    let first = subst (λ o. IfSome o (IsIndex (snapshots_known ss))) c.in-Some.is c.in_ok-of_snapshots.ensures.found in
    let second = subst (λ o. IfSome o (IsIndex (names_known ns))) c.in-Some-of_names.is c.in_ok-of_names.ensures.found in
    let told : Bool = list_all (λ (n : NameRecord). is_told (snapshots_known ss) n.name n.xid) ns in
    let by_names = c.all_in.ensures (names_known ns) second in
    let whole = same-both ss ns one two in
    elim c.if-all_in.branch [
      | then-all_in w ↦ w.result-is ∙ (w.all_in-then-all_in.ensures (snapshots_known ss) first ∙ (ap (λ b. b && told) (sym w.if-all_in.true ∙ by_names) ∙ whole))
      | else-all_in w ↦ w.result-is ∙ (w.if-all_in.false ∙ (ap (λ b. b && told) (sym w.if-all_in.false ∙ by_names) ∙ whole))
    ]
