use Rattle.std.proofs.Common.{ap, ◌∙◌}
use Rattle.std.specs.List.{flat_map}
use Rattle.std.proofs.lemmas.Iterator.Adapters.{YieldsList-from_rev_slice}
use Rattle.std.proofs.lemmas.Iterator.Consumers.{YieldsList-end}
use Rattle.img_edit.specs.Nodes.{Pair}
use Rattle.img_edit.proofs.Nodes.{values_back}
use Rattle.img_edit.proofs.node.values_of.Goals as goal

pub returns : goal.returns
returns c =
    let all = YieldsList-end (YieldsList-from_rev_slice c.args.items.now cc) c.items.yielded _ c.items.yielded_by _ _ c.in-None.is c.next.ensures.steps in
    c.items.invariant ∙ ap (flat_map (λ (item : Pair). item.1.items)) all.0 ∙ values_back c.args.items.now
