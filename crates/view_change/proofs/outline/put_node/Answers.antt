use Rattle.std.proofs.Common.{rules, ◌≡◌, true, refl, arith}
use Rattle.view_change.specs.Outline.{node_place}
use Rattle.view_change.proofs.Outlines.{node-level}
use Rattle.view_change.proofs.outline.put_node.Goals as goal

pub put_entries-requires-clause-upper : goal.put_entries-requires-clause-upper
put_entries-requires-clause-upper g c =
    let read : c.in_ok-load.field-0 ≡ true = search rules in
    let place = node_place c.args.level c.args.oid in
    omega (arith, c.requires.upper, node-level g.K.TreeKey.shape c.args.site.now place c.load.new.into c.args.level c.args.oid (c.in_ok-load.ensures.node read) refl)
