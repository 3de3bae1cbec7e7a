use Rattle.std.proofs.Common.{take, ap}
use Rattle.std.proofs.lemmas.List.{take_rest}
use Rattle.path_walk.proofs.files.part.Goals as goal

pub returns-clause-items : goal.returns-clause-items
returns-clause-items g c = ap (take c.args.count) (take_rest c.args.items.now c.args.from)
