use Rattle.std.proofs.Common.{◌∙◌, ℕ, List, sym, ap, subst}
use Rattle.apfs_model.specs.Lists.{In}
use Rattle.obj_base.specs.Stops.{Tells}
use Rattle.ext_ref.specs.Scanned.{blocks_by, IsExtFeature}
use Rattle.ext_ref.proofs.Gathered.{blocks-steps}
use Rattle.use_report.specs.Counted.{Grows}
use Rattle.use_report.specs.Holding.{IsReferencesFault}
use Rattle.use_report.proofs.Stopped.{references-told}
use Rattle.use_report.proofs.holding.add_references.Goals as goal

pub returns-in-Ok-clause-added : goal.returns-in-Ok-clause-added
returns-in-Ok-clause-added g c image told =
    let root = c.args.kept.now.extents_root in
    let scanned = c.in-Ok.ensures.clear image told in
    let same = c.deref.ensures.value ∙ scanned.steps_are in
    (scanned.right, subst (λ (blocks : List ℕ). Grows c.args.held.now c.add_tree.new.held (λ block. In block blocks)) (ap (blocks_by root) same ∙ sym (blocks-steps image c.args.site.now root scanned.right)) c.in_ok-add_tree-in-Ok.ensures)

pub returns-clause-present : goal.returns-clause-present
returns-clause-present g c image told =
    let site = c.args.site.now in
    let kept = c.args.kept.now in
    subst (Tells (IsReferencesFault image site kept) (IsExtFeature image site kept.extents_root)) (sym c.of_references.ensures) (references-told image site kept c.in-Err.stop (c.in-Err.ensures.present image told))
