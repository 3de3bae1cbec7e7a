use Rattle.std.proofs.Common.{List, ap, ◌∙◌}
use Rattle.std.specs.Prelude.{option_map, slice_get}
use Rattle.id_lists.proofs.InOrder.{rises-set}
use Rattle.id_lists.proofs.id_list.IdList.set.Goals as goal

pub invariant_of-self : goal.invariant_of-self
invariant_of-self g c =
    rises-set g.B.OrderBy.id c.self.inside.list.items c.args.at c.args.item (ap (λ (list : List g.row.T.Denot). option_map g.B.OrderBy.id (slice_get list c.args.at)) c.self.view_is ∙ c.requires) c.self.invariant
