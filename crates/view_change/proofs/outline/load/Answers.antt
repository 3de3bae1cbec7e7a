use Rattle.std.proofs.Common.{◌≡◌, Some}
use Rattle.bt_cursor.specs.Tree.{block_named}
use Rattle.view_change.proofs.Outlines.{loaded-if}
use Rattle.view_change.proofs.outline.load.Goals as goal

pub returns-clause-found : goal.returns-clause-found
returns-clause-found g c image told =
    let named = g.N.Namer.named c.args.namer.now in
    let there : block_named c.args.site.now named c.args.at.now.oid ≡ Some c.in-Some.block = cc (c.block_in.ensures, c.in-Some.is) in
    loaded-if g.K.TreeKey.shape c.args.site.now named image c.args.at.now c.in-Some.block c.read_node.new.into c.read_node.result there (c.read_node.ensures.found image told) c.read_node.ensures.node
