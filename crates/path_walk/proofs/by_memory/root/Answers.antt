use Rattle.std.proofs.Common.{refl, sym}
use Rattle.path_search.proofs.Known.{lack_root}
use Rattle.path_walk.proofs.by_memory.root.Goals as goal

pub returns-in-None-clause-known : goal.returns-in-None-clause-known
returns-in-None-clause-known c facts r = lack_root facts c.args.view.now _ (sym (c.in-None.ensures facts r)) refl
