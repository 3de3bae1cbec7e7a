use Rattle.std.proofs.Common.{◌≡◌, ℕ, List, Some, refl}
use Rattle.bt_cursor.specs.Tree.{tree_in}
use Rattle.bt_cursor.specs.Stack.{IsIn}
use Rattle.bt_cursor.specs.Ahead.{gapped_ahead}
use Rattle.bt_cursor.proofs.Places.{tree-levelled, node-world}
use Rattle.bt_cursor.proofs.Suffixes.{cut-place}
use Rattle.bt_cursor.proofs.Seeks.{place-from}
use Rattle.bt_cursor.proofs.cursor.Cursor.seek.Goals as goal

pub returns-in-Err : goal.returns-in-Err
returns-in-Err g c =
    let self = c.args.self.now in
    let named = g.N.Namer.named self.namer in
    let e = c.in-Err.ensures in
    record { site = refl; root = refl; tree = refl; depth = e.depth; of_nodes = e.of_nodes; reads = e.reads; place = λ image told on. tt; left = λ image told on ordered. tt; stops = λ image told on. e.stops image told self.root on; within = λ image told on. e.within image told self.root on; present = λ image told on. e.present image told self.root on; exact = λ image told on walkable. node-world (tree_in g.K.TreeKey.shape self.site named image) self.root c.in-Err.stop (tree-levelled g.K.TreeKey.shape self.site named image) walkable (e.present image told self.root on); cause = e.cause; no_memory = e.no_memory; kept = e.kept }

pub returns-in-Ok : goal.returns-in-Ok
returns-in-Ok g c =
    let self = c.args.self.now in
    let way = c.find.new.way in
    let tree = λ (image : List ℕ). tree_in g.K.TreeKey.shape self.site (g.N.Namer.named self.namer) image in
    let e = c.in-Ok.ensures in
    let place = λ (image : List ℕ) (told : g.S.BlockSource.bytes c.args.src.now ≡ Some image) (on : IsIn (tree image) self.root self.way.above.items self.way.last).
    cut-place (tree image) self.root c.args.rank.now way.above.items way.last (e.within image told self.root on) e.cut e.way.hold_last.inside in
    record { site = refl; root = refl; tree = refl; depth = e.depth; reads = e.reads; of_nodes = tt; place = place; left = λ image told on ordered. place-from (tree image) self.root c.args.rank.now (gapped_ahead (tree image) way) ordered (place image told on); stops = λ image told on. tt; present = λ image told on. tt; exact = λ image told on walkable. tt; within = λ image told on. e.within image told self.root on; cause = e.cause; no_memory = e.no_memory; kept = e.kept }
