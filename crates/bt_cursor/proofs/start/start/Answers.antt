use Rattle.std.proofs.Common.{ℕ, List}
use Rattle.obj_base.specs.declared.stop.Stop.TheVariants.{ReadFault}
use Rattle.bt_cursor.specs.Tree.{tree_in, root_place}
use Rattle.bt_cursor.specs.Met.{first}
use Rattle.bt_cursor.proofs.Ends.{err-as}
use Rattle.bt_cursor.proofs.Nodes.{gap_fault}
use Rattle.bt_cursor.proofs.start.start.Goals as goal

pub returns-in-Err : goal.returns-in-Err
returns-in-Err g c =
    let tree = λ (image : List ℕ). tree_in g.K.TreeKey.shape c.args.site.now (g.N.Namer.named c.args.namer.now) image in
    let stop = c.in-Err.stop in
    let e = c.in-Err.ensures in
    record { way = tt; start = tt; depth = tt; found = λ image told. tt; at = tt; present = λ image told. gap_fault (tree image) c.args.root (root_place c.args.root) stop first e.of_nodes (e.found image told); gap = e.found; of_nodes = e.of_nodes; reads = e.reads; cause = λ is. e.cause (err-as stop ReadFault is); kept = e.kept }
