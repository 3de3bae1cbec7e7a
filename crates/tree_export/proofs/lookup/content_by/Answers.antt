use Rattle.std.proofs.Common.{◌∙◌, subst}
use Rattle.bt_cursor.specs.Flat.{flat_of}
use Rattle.vol_view.specs.Views.{view_tree}
use Rattle.tree_export.specs.Parts.{TellsOrdered}
use Rattle.tree_export.proofs.lookup.content_by.Goals as goal

pub returns-in-Missing-clause-present : goal.returns-in-Missing-clause-present
returns-in-Missing-clause-present g c image told =
    let flat = flat_of (view_tree g.K.TreeKey.shape image c.args.site.now c.args.volume.now c.args.view.now) c.args.view.now.root_oid in
    c.absent.ensures.present image (c.in-Ok.ensures.kept.same_bytes ∙ told) (λ ordered. subst (TellsOrdered flat c.args.id) c.in-Missing.is (c.in-Ok.ensures.ordered image told ordered))
