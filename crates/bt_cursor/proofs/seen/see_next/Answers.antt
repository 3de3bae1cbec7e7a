use Rattle.bt_node.specs.Node.{level_of}
use Rattle.bt_node.specs.Entries.{pair_of}
use Rattle.bt_cursor.proofs.Steps.{read-some, read-none}
use Rattle.bt_cursor.proofs.seen.see_next.Goals as goal

pub returns-clause-seen : goal.returns-clause-seen
returns-clause-seen g c some =
    let step = c.args.step.now in
    let node = step.block.items in
    read-some g.K.TreeKey.shape c.args.seen.now c.see.new.seen step.at.oid step.next (level_of node) c.level.result (pair_of g.K.TreeKey.shape node step.next) c.key_at-key.result c.key_at-key.ensures c.level.ensures (c.see.ensures.seen c.if-not-see.false)

pub returns-then-not-see-clause-out : goal.returns-then-not-see-clause-out
returns-then-not-see-clause-out g c none =
    let step = c.args.step.now in
    let node = step.block.items in
    read-none g.K.TreeKey.shape c.args.seen.now step.at.oid step.next (level_of node) c.level.result (pair_of g.K.TreeKey.shape node step.next) c.key_at-key.result c.key_at-key.ensures c.level.ensures (c.see.ensures.out c.if-not-see.true)
