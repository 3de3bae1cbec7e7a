use Rattle.std.proofs.Common.{◌≡◌, ◌++◌, ◌∙◌, ap, length, take, drop, rules, arith}
use Rattle.std.proofs.lemmas.List.{take_at}
use Rattle.img_edit.specs.Nodes as spec
use Rattle.img_edit.proofs.Nodes.{node_long, behind_sum}
use Rattle.img_edit.proofs.Reading.{node_head_read, items_read}
use Rattle.img_edit.proofs.node.node.Goals as goal

pub returns : goal.returns
returns c =
    let size = c.args.size in
    let tree = c.args.tree.now in
    let head = c.args.head.now in
    let items = c.args.items.now in
    let old = c.in-Some.block in
    let new = c.reseal.new.block in
    let was : spec.IsUnsealed size tree head items old.items = search rules in
    let long = node_long size tree head items old.items was.bytes was.room in
    let kept : take old.len (new ++ drop (length new) old.items) ≡ new = take_at new _ _ (omega (arith, old.ok.0)) in
    let rest : drop 8 new ≡ spec.node_of size tree head items = c.reseal.ensures.same ∙ ap (λ l. drop 8 l) c.deref_mut.ensures.value ∙ behind_sum _ old.items was.bytes in
    rw kept (record {
      laid = record { long = omega (arith, long); sum = c.reseal.ensures.sum; rest = rest };
      header = node_head_read size tree head items new rest was.fits;
      items = items_read size tree head items new rest was.room c.requires.most;
    })
