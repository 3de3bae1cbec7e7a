use Rattle.std.proofs.Common.{◌≡◌}
use Rattle.bt_keys.specs.Shapes.{fs_shape, fs_plain_shape}
use Rattle.bt_node.specs.Node as fields
use Rattle.bt_node.specs.SoundNode.{IsNode}
use Rattle.view_sweep.proofs.Sounds.{node-level, on-ok}
use Rattle.view_sweep.proofs.nodes.take_files.Goals as goal

pub returns-then-hit-clause-level : goal.returns-then-hit-clause-level
returns-then-hit-clause-level c = λ level e.
    on-ok (IsNode fs_shape c.args.at.now c.args.site.now c.args.bytes.now) (fields.level_of c.args.bytes.now ≡ level) c.take_node.result
    (λ sound. node-level fs_shape c.args.at.now c.args.site.now c.args.bytes.now level sound e) c.take_node.ensures.node

pub returns-else-hit-clause-level : goal.returns-else-hit-clause-level
returns-else-hit-clause-level c = λ level e.
    on-ok (IsNode fs_plain_shape c.args.at.now c.args.site.now c.args.bytes.now) (fields.level_of c.args.bytes.now ≡ level) c.take_node-else-hit.result
    (λ sound. node-level fs_plain_shape c.args.at.now c.args.site.now c.args.bytes.now level sound e) c.take_node-else-hit.ensures.node
