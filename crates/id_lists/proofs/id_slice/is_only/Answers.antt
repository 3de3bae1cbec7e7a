use Rattle.std.proofs.Common.{◌≡◌, get_or, ap, sym, ◌∙◌, arith}
use Rattle.apfs_model.proofs.BoolTests.{equal-from}
use Rattle.id_lists.proofs.InOrder.{only-place}
use Rattle.id_lists.proofs.id_slice.is_only.Goals as goal

pub returns : goal.returns
returns g c =
    λ yes.
    let id = g.B.OrderBy.id in
    let list = c.args.list.now in
    let at = c.args.at in
    let here : id (get_or list at c.index-list-at.result) ≡ c.args.id = sym (c.id.ensures ∙ ap id c.index-list-at.is) ∙ equal-from c.id.result c.args.id yes in
    only-place id list c.args.id at c.index-list-at.result c.requires (omega arith) here
