use Rattle.std.proofs.Common.{◌+◌, ◌≤◌, length, sym, subst}
use Rattle.obj_base.specs.Stops.{Tells}
use Rattle.obj_base.specs.declared.site.Site.{Site}
use Rattle.bt_keys.specs.Shapes.{queue_shape}
use Rattle.bt_cursor.specs.Tree.{tree_in}
use Rattle.bt_cursor.specs.Met.{nodes_of}
use Rattle.bt_cursor.specs.Faults.{HasFeature}
use Rattle.bt_cursor.specs.Gathered.{IsGathered, IsGatherFault}
use Rattle.space_pool.specs.Queues.{queue_tree, ephemeral_named, is_short_item}
use Rattle.space_pool.specs.Gathered.{Gathers, IsTreeFault}
use Rattle.space_pool.proofs.Gathered.{gathered-entries, gathered-steps, nodes-some, said_tells}
use Rattle.space_pool.proofs.queues.walked_from.Goals as goal

pub returns-in-Ok-clause-clear : goal.returns-in-Ok-clause-clear
returns-in-Ok-clause-clear g c image told =
    let cp = c.args.cp.now in
    let entries = c.in-Ok.kept.entries.items in
    let steps = c.in-Ok.kept.steps.items in
    gathered-entries image cp c.args.root entries steps c.requires.some
    (subst (λ (site : Site). IsGathered (tree_in queue_shape site (ephemeral_named cp) image) c.args.root (Gathers entries steps) is_short_item) c.site-site.ensures (c.in-Ok.ensures.clear image told))

pub returns-in-Ok-clause-steps : goal.returns-in-Ok-clause-steps
returns-in-Ok-clause-steps g c image told =
    let cp = c.args.cp.now in
    let entries = c.in-Ok.kept.entries.items in
    let steps = c.in-Ok.kept.steps.items in
    gathered-steps image cp c.args.root entries steps c.requires.some
    (subst (λ (site : Site). IsGathered (tree_in queue_shape site (ephemeral_named cp) image) c.args.root (Gathers entries steps) is_short_item) c.site-site.ensures (c.in-Ok.ensures.clear image told))

pub returns-in-Ok-clause-reads : goal.returns-in-Ok-clause-reads
returns-in-Ok-clause-reads g c image told =
    let cp = c.args.cp.now in
    let reads = g.S.BlockSource.reads in
    subst (λ n. reads c.gather.new.src ≤ reads c.args.src.now + n) (sym (nodes-some image cp c.args.root c.requires.some))
    (subst (λ (site : Site). reads c.gather.new.src ≤ reads c.args.src.now + length (nodes_of (tree_in queue_shape site (ephemeral_named cp) image) c.args.root)) c.site-site.ensures (c.in-Ok.ensures.reads image told))

pub returns-in-Err-clause-present : goal.returns-in-Err-clause-present
returns-in-Err-clause-present g c image told =
    let cp = c.args.cp.now in
    let root = c.args.root in
    subst (λ stop. Tells (IsTreeFault image cp root) (HasFeature (queue_tree image cp) root) stop) (sym c.raise.ensures)
    (said_tells image cp root c.args.block c.in-Err.stop c.requires.named
    (subst (λ (site : Site). Tells (IsGatherFault (tree_in queue_shape site (ephemeral_named cp) image) root is_short_item) (HasFeature (tree_in queue_shape site (ephemeral_named cp) image) root) c.in-Err.stop) c.site-site.ensures (c.in-Err.ensures.present image told)))
