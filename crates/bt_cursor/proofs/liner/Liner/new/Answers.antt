use Rattle.std.proofs.Common.{ℕ, List, ap, sym, ◌∙◌}
use Rattle.bt_node.specs.Node.{key_count_of}
use Rattle.bt_cursor.specs.Tree.{tree_in}
use Rattle.bt_cursor.specs.Seen.{seen_start}
use Rattle.obj_base.specs.declared.stop.Stop.TheVariants.{ReadFault}
use Rattle.bt_cursor.proofs.Ends.{err-as}
use Rattle.bt_cursor.proofs.Flats.{line-start}
use Rattle.bt_cursor.proofs.Gone.{gone-start}
use Rattle.bt_cursor.proofs.Passings.{root-first}
use Rattle.bt_cursor.proofs.Places.{tree-levelled, node-world}
use Rattle.bt_cursor.proofs.Ways.{IsIn-start}
use Rattle.bt_cursor.proofs.liner.Liner.new.Goals as goal

pub returns-in-Ok-clause-passed : goal.returns-in-Ok-clause-passed
returns-in-Ok-clause-passed g c image told =
    let tree = tree_in g.K.TreeKey.shape c.args.site (g.N.Namer.named c.args.namer) image in
    let way = c.in-Ok.way in
    let at = c.in-Ok.ensures in
    let node = way.last.block.items in
    let found = at.found image told in
    record {
      within = IsIn-start tree c.args.root way.above.items way.last at.start.above at.at found;
      gone = gone-start tree c.args.root node _ c.nothing_seen-seen.result _ found (sym (line-start tree c.args.root way.above.items way.last at.start.above at.start.next at.at found))
          (c.nothing_seen-seen.ensures ∙ (ap (λ n. seen_start n c.info.result.node_count) c.info.ensures.keys ∙ ap (seen_start (key_count_of node)) c.info.ensures.nodes));
    }

pub returns-in-Err : goal.returns-in-Err
returns-in-Err g c =
    let named = g.N.Namer.named c.args.namer in
    let tree = λ (image : List ℕ). tree_in g.K.TreeKey.shape c.args.site named image in
    let stop = c.in-Err.stop in
    let e = c.in-Err.ensures in
    record { site = tt; root = tt; tree = tt; deep = tt; seen = tt; passed = λ image told. tt; first = λ image told. root-first (tree image) c.args.root stop e.of_nodes (e.gap image told); exact = λ image told walkable. node-world (tree image) c.args.root stop (tree-levelled g.K.TreeKey.shape c.args.site named image) walkable (e.present image told); present = e.present; of_nodes = e.of_nodes; reads = e.reads; cause = λ is. e.cause (err-as stop ReadFault is); kept = e.kept }
