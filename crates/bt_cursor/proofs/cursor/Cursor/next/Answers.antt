use Rattle.std.proofs.Common.{refl}
use Rattle.bt_cursor.specs.Tree.{tree_in}
use Rattle.bt_cursor.proofs.Places.{tree-levelled, node-world}
use Rattle.bt_cursor.proofs.cursor.Cursor.next.Goals as goal

pub returns-in-Ok : goal.returns-in-Ok
returns-in-Ok g c =
    let e = c.in-Ok.ensures in
    record { site = refl; root = refl; tree = refl; depth = e.depth; moved = e.moved; stands = e.stands; unread = e.unread; reads = e.reads; fuel = e.fuel; left = λ image told. tt; stops = λ image told. tt; present = λ image told on. tt; exact = λ image told on walkable. tt; of_nodes = tt; within = λ image told on. e.within image told c.args.self.now.root on; cause = e.cause; no_memory = e.no_memory; kept = e.kept }

pub returns-in-Err : goal.returns-in-Err
returns-in-Err g c =
    let self = c.args.self.now in
    let named = g.N.Namer.named self.namer in
    let e = c.in-Err.ensures in
    record { site = refl; root = refl; tree = refl; depth = e.depth; left = e.same; stops = e.stops; of_nodes = e.of_nodes; reads = e.reads; moved = λ image told. tt; stands = tt; unread = λ image told. tt; fuel = tt; within = λ image told on. e.within image told self.root on; present = λ image told on. e.present image told self.root on; exact = λ image told on walkable. node-world (tree_in g.K.TreeKey.shape self.site named image) self.root c.in-Err.stop (tree-levelled g.K.TreeKey.shape self.site named image) walkable (e.present image told self.root on); cause = e.cause; no_memory = e.no_memory; kept = e.kept }
