use Rattle.std.proofs.Common.{append_assoc, rules}
use Rattle.std.proofs.lemmas.Result.{IfOk-equal}
use Rattle.img_edit.specs.Nodes.{header_of}
use Rattle.img_edit.proofs.header.add_head.Goals as goal

pub returns-clause-added : goal.returns-clause-added
unfolding header_of
returns-clause-added c = search (rules, IfOk-equal, append_assoc)
