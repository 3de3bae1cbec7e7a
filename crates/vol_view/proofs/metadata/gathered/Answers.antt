use Rattle.std.proofs.Common.{◌≡◌, ◌∙◌, ◌==◌, [], false, length, if◌then◌else◌, sym, ap, subst, arith}
use Rattle.apfs_model.proofs.BoolTests.{never-true, equal-from}
use Rattle.obj_base.specs.Stops.{Tells}
use Rattle.vol_view.specs.Fields.{snaps_root_of}
use Rattle.bt_cursor.specs.Met.{nodes_of}
use Rattle.vol_view.specs.SnapRecords.{metadata_tree, metadata_steps}
use Rattle.vol_view.specs.ReadBound.{metadata_nodes}
use Rattle.vol_view.specs.LoadStops.{IsLoadStop, IsLoadFeature}
use Rattle.vol_view.specs.Gathered.{HasMetadata}
use Rattle.vol_view.proofs.LoadSteps.{no-metadata, gathered-metadata, steps-none, gathered-steps, metadata-tells}
use Rattle.vol_view.proofs.metadata.gathered.Goals as goal

pub returns-then-root-eq0-clause-clear : goal.returns-then-root-eq0-clause-clear
returns-then-root-eq0-clause-clear g c image told =
    let site = c.args.site.now in
    let root = snaps_root_of c.args.bytes.now in
    let none : root ≡ 0 = sym c.snaps_root-root.ensures ∙ c.if-root-eq0.true in
    subst (λ xs. HasMetadata image site root xs c.new-2.result.items) (sym c.new.ensures.items) (subst (λ ys. HasMetadata image site root [] ys) (sym c.new-2.ensures.items) (no-metadata image site root none))

pub returns-in-Ok-clause-clear : goal.returns-in-Ok-clause-clear
returns-in-Ok-clause-clear g c image told =
    let site = c.args.site.now in
    let root = c.snaps_root-root.result in
    let some : (root == 0) ≡ false = never-true (root == 0) (λ t. c.if-root-eq0.false (equal-from root 0 t)) in
    subst (λ r. HasMetadata image site r c.in-Ok.kept.snapshots.items c.in-Ok.kept.names.items) c.snaps_root-root.ensures
    (gathered-metadata image site root c.in-Ok.kept.snapshots.items c.in-Ok.kept.names.items c.in-Ok.kept.steps.items some (c.in-Ok.ensures.clear image told))

pub returns-then-root-eq0-clause-steps : goal.returns-then-root-eq0-clause-steps
returns-then-root-eq0-clause-steps g c image told = c.new-3.ensures.items ∙ sym (steps-none image c.args.site.now (snaps_root_of c.args.bytes.now) (sym c.snaps_root-root.ensures ∙ c.if-root-eq0.true))

pub returns-in-Ok-clause-steps : goal.returns-in-Ok-clause-steps
returns-in-Ok-clause-steps g c image told =
    let site = c.args.site.now in
    let root = c.snaps_root-root.result in
    let some : (root == 0) ≡ false = never-true (root == 0) (λ t. c.if-root-eq0.false (equal-from root 0 t)) in
    gathered-steps image site root c.in-Ok.kept.snapshots.items c.in-Ok.kept.names.items c.in-Ok.kept.steps.items some (c.in-Ok.ensures.clear image told) ∙ ap (metadata_steps image site) c.snaps_root-root.ensures

pub returns-in-Err-clause-present : goal.returns-in-Err-clause-present
returns-in-Err-clause-present g c image told same =
    let site = c.args.site.now in
    let head = c.args.head.now in
    let root = c.snaps_root-root.result in
    let some : (root == 0) ≡ false = never-true (root == 0) (λ t. c.if-root-eq0.false (equal-from root 0 t)) in
    subst (Tells (IsLoadStop image site head) (IsLoadFeature image site head)) (sym c.raise.ensures)
    (metadata-tells image site head root c.in-Err.stop (c.snaps_root-root.ensures ∙ ap snaps_root_of same) some (c.in-Err.ensures.present image told))

pub returns-in-Ok-clause-reads : goal.returns-in-Ok-clause-reads
unfolding metadata_nodes
returns-in-Ok-clause-reads g c image told =
    let site = c.args.site.now in
    let root = c.snaps_root-root.result in
    let some : (root == 0) ≡ false = never-true (root == 0) (λ t. c.if-root-eq0.false (equal-from root 0 t)) in
    let nodes = length (nodes_of (metadata_tree image site) root) in
    let all : metadata_nodes image site (snaps_root_of c.args.bytes.now) ≡ nodes = ap (metadata_nodes image site) (sym c.snaps_root-root.ensures) ∙ ap (λ b. if b then 0 else nodes) some in
    omega (arith, all, c.in-Ok.ensures.reads image told)
