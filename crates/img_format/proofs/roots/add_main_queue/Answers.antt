use Rattle.std.proofs.Common.{true, ap, ◌++◌, ◌∙◌}
use Rattle.std.proofs.lemmas.Result.{on_ok_weaker}
use Rattle.img_format.specs.Nodes.{root}
use Rattle.img_format.specs.Blocks.{main_queue}
use Rattle.img_format.proofs.Leaves.{same-object, empty-laid}
use Rattle.img_format.proofs.roots.add_main_queue.Goals as goal

pub returns : goal.returns
unfolding root main_queue
returns c = on_ok_weaker c.add_empty.result (λ n. n ∙ ap (λ bs. c.args.front.now.items ++ bs) (same-object _ _ _ _ _ (empty-laid true))) c.add_empty.ensures
