use Rattle.std.proofs.Common.{append_assoc, rules}
use Rattle.std.proofs.lemmas.Result.{IfOk-equal}
use Rattle.img_edit.specs.Nodes.{spaces_of}
use Rattle.img_edit.proofs.node.add_spaces.Goals as goal

pub returns : goal.returns
unfolding spaces_of
returns c = search (rules, IfOk-equal, append_assoc)
