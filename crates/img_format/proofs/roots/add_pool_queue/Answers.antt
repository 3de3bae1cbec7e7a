use Rattle.std.proofs.Common.{true, ap, ◌++◌, ◌∙◌}
use Rattle.std.proofs.lemmas.Result.{on_ok_weaker}
use Rattle.img_format.specs.Nodes.{root}
use Rattle.img_format.specs.Blocks.{pool_queue}
use Rattle.img_format.proofs.Leaves.{same-object, empty-laid}
use Rattle.img_format.proofs.roots.add_pool_queue.Goals as goal

pub returns : goal.returns
unfolding root pool_queue
returns c = on_ok_weaker c.add_empty.result (λ n. n ∙ ap (λ bs. c.args.front.now.items ++ bs) (same-object _ _ _ _ _ (empty-laid true))) c.add_empty.ensures
