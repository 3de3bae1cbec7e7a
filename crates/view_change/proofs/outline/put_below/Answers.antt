use Rattle.std.proofs.Common.{ℕ, Option, ap, arith}
use Rattle.std.specs.Prelude.{is_some}
use Rattle.bt_cursor.specs.Seen.{reads_for}
use Rattle.bt_cursor.specs.Tree.{tree_in}
use Rattle.view_change.proofs.Outlines.{below-some, if-true}
use Rattle.view_change.proofs.outline.put_below.Goals as goal

pub returns-in-Some-clause-below : goal.returns-in-Some-clause-below
returns-in-Some-clause-below g c image told =
    let tree = tree_in g.K.TreeKey.shape c.args.site.now (g.N.Namer.named c.args.namer.now) image in
    if-true _ _ c.put_node.result (below-some tree c.args.level c.args.next c.in-Some.oid c.args.into.now.items c.push.new.self.items c.put_node.new.into.items c.in-Some.is c.in_ok-push.ensures.items) (c.put_node.ensures.below image told)

pub returns-in-Some-clause-reads : goal.returns-in-Some-clause-reads
returns-in-Some-clause-reads g c = omega (arith, c.put_node.ensures.reads, ap {B = ℕ} (λ (child : Option ℕ). reads_for (is_some child)) c.in-Some.is)
