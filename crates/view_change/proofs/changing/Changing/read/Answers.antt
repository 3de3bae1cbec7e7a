use Rattle.std.proofs.Common.{rules, ◌≡◌, ◌∙◌, true, sym, subst, arith}
use Rattle.std.proofs.lemmas.Grind.{common_steps}
use Rattle.bt_node.specs.SoundNode.{IsNode}
use Rattle.bt_node.specs.declared.node.NodeAt.{NodeAt}
use Rattle.view_change.specs.Leaves.{leaf_place}
use Rattle.view_change.specs.Reading.{IsNodeOf}
use Rattle.view_change.proofs.changing.Changing.read.Goals as goal

pub returns-clause-held : goal.returns-clause-held
returns-clause-held g c start image leaves told had =
    let shape = g.K.TreeKey.shape in
    let site = c.args.site.now in
    let leaf = c.args.leaf in
    let read : c.in_ok-read_node.field-0 ≡ true = search rules in
    let same : c.kept-node.result ≡ c.read_node.new.into = first_of (search rules, grind (arith, common_steps)) in
    let is : IsNodeOf shape site image leaf c.kept-node.result = record {
      sound = subst (IsNode shape (leaf_place leaf) site) (sym same) (subst (λ (at : NodeAt). IsNode shape at site c.read_node.new.into) c.place-at.ensures (c.in_ok-read_node.ensures.node read));
      found = same ∙ c.in_ok-read_node.ensures.found image told read;
    } in
    c.in_ok-add.ensures.held start site image leaves is had
