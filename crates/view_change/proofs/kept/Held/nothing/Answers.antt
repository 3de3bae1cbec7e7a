use Rattle.std.proofs.Common.{refl}
use Rattle.view_change.proofs.Underway.{view-none}
use Rattle.view_change.proofs.kept.Held.nothing.Goals as goal

pub returns : goal.returns
returns g c site image = view-none g.K.TreeKey.shape site image c.args.names _ c.new.ensures.items c.no_facts.ensures refl
