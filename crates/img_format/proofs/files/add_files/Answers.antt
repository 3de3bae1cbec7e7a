use Rattle.std.proofs.Common.{refl, ap, ◌++◌, ◌∙◌}
use Rattle.std.proofs.lemmas.Result.{on_ok_weaker}
use Rattle.img_format.specs.Tables.{num, laid}
use Rattle.img_format.specs.Nodes.{root}
use Rattle.img_format.specs.Blocks.{files}
use Rattle.img_format.proofs.Leaves.{same-object}
use Rattle.img_format.proofs.files.add_files.Goals as goal

pub add_object-requires : goal.add_object-requires
unfolding num
add_object-requires c = refl

pub returns : goal.returns
unfolding num laid root files
returns c = on_ok_weaker c.add_object.result (λ n. n ∙ ap (λ bs. c.args.front.now.items ++ bs) (same-object _ _ _ _ _ refl)) c.add_object.ensures
