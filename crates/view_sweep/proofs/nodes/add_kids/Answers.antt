use Rattle.std.proofs.Common.{ℕ, [], ◌∷◌, ◌++◌, ap, ◌∙◌}
use Rattle.view_sweep.specs.Found.{kid}
use Rattle.view_sweep.proofs.Kids.{kids_more}
use Rattle.view_sweep.proofs.nodes.add_kids.Goals as goal

pub loop-entry-preserved : goal.loop-entry-preserved
loop-entry-preserved g c =
    c.in_ok-push.ensures.items
    ∙ (ap (λ (oid : ℕ). c.loop-entry.out.items ++ kid c.args.hit.now.wanted.view c.args.hit.now.mapping c.args.level c.loop-entry.entry oid ∷ []) c.child.ensures.child
    ∙ kids_more g.K.TreeKey.shape c.args.node.now c.args.out.now.items c.loop-entry.out.items c.args.hit.now.wanted.view c.args.hit.now.mapping c.args.level c.loop-entry.entry c.loop-entry.invariant)
