use Rattle.std.proofs.Common.{◌∙◌, ◌++◌, map, ap}
use Rattle.reach_gather.specs.Steps.{block_owner}
use Rattle.reach_gather.proofs.Mapped.{past-are, past-noted, past-owned}
use Rattle.reach_gather.proofs.maps.add_past.Goals as goal

pub returns-then-oid-eq0-clause-namings : goal.returns-then-oid-eq0-clause-namings
returns-then-oid-eq0-clause-namings c = past-noted c.args.block c.args.omap.now c.snap_tree-oid.result c.args.out.now.namings c.snap_tree-oid.ensures c.if-oid-eq0.true

pub returns-then-oid-eq0-clause-owners : goal.returns-then-oid-eq0-clause-owners
returns-then-oid-eq0-clause-owners c = past-owned c.args.block c.args.omap.now c.snap_tree-oid.result c.args.out.now.owners c.snap_tree-oid.ensures c.if-oid-eq0.true

pub returns-clause-namings : goal.returns-clause-namings
returns-clause-namings c =
    c.in_ok-add_nodes.ensures.namings
    ∙ ap (λ xs. c.args.out.now.namings ++ xs) (past-are c.args.block c.args.omap.now c.root-root.result c.snap_tree-oid.result c.snap_steps.result.now c.root-root.ensures c.snap_tree-oid.ensures c.if-oid-eq0.false c.snap_steps.ensures)

pub returns-clause-owners : goal.returns-clause-owners
returns-clause-owners c =
    c.in_ok-add_nodes.ensures.owners
    ∙ ap (λ xs. c.args.out.now.owners ++ map block_owner xs) (past-are c.args.block c.args.omap.now c.root-root.result c.snap_tree-oid.result c.snap_steps.result.now c.root-root.ensures c.snap_tree-oid.ensures c.if-oid-eq0.false c.snap_steps.ensures)
