use Rattle.std.proofs.Common.{ℕ, List, Some, refl, ap, sym, ◌∙◌}
use Rattle.std.specs.Prelude.{option_map}
use Rattle.apfs_model.specs.Lists.{value_of}
use Rattle.bt_node.specs.Node.{level_of}
use Rattle.bt_cursor.specs.Tree.{tree_in}
use Rattle.obj_base.specs.declared.stop.Stop.TheVariants.{ReadFault}
use Rattle.bt_cursor.proofs.Ends.{ok-not, err-as}
use Rattle.bt_cursor.proofs.Gaps.{stops-root}
use Rattle.bt_cursor.proofs.Suffixes.{way-start}
use Rattle.bt_cursor.proofs.Places.{tree-levelled, node-world}
use Rattle.bt_cursor.proofs.Ways.{IsIn-start}
use Rattle.bt_cursor.proofs.cursor.Cursor.new.Goals as goal

pub returns-in-Ok : goal.returns-in-Ok
returns-in-Ok g c =
    let tree = λ (image : List ℕ). tree_in g.K.TreeKey.shape c.args.site (g.N.Namer.named c.args.namer) image in
    let way = c.in-Ok.way in
    let e = c.in-Ok.ensures in
    record { site = refl; root = refl; tree = refl; reads = e.reads; of_nodes = tt; cause = ok-not _ ReadFault; kept = e.kept; stops = λ image told. tt; present = λ image told. tt; exact = λ image told walkable. tt; left = λ image told. way-start (tree image) c.args.root way.above.items way.last e.start.above e.start.next e.at (e.found image told); depth = λ image told. ap (λ o. option_map level_of (value_of o)) (e.found image told) ∙ ap Some (sym e.depth); within = λ image told. IsIn-start (tree image) c.args.root way.above.items way.last e.start.above e.at (e.found image told) }

pub returns-in-Err : goal.returns-in-Err
returns-in-Err g c =
    let tree = λ (image : List ℕ). tree_in g.K.TreeKey.shape c.args.site (g.N.Namer.named c.args.namer) image in
    let stop = c.in-Err.stop in
    let e = c.in-Err.ensures in
    record { site = tt; root = tt; tree = tt; left = λ image told. tt; depth = λ image told. tt; within = λ image told. tt; stops = λ image told. stops-root (tree image) c.args.root stop (e.gap image told); exact = λ image told walkable. node-world (tree image) c.args.root stop (tree-levelled g.K.TreeKey.shape c.args.site (g.N.Namer.named c.args.namer) image) walkable (e.present image told); present = e.present; of_nodes = e.of_nodes; reads = e.reads; cause = λ is. e.cause (err-as stop ReadFault is); kept = e.kept }
