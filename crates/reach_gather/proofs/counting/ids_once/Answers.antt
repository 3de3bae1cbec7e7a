use Rattle.std.specs.Prelude.{flat_map}
use Rattle.reach_gather.specs.Kept.{namings_in}
use Rattle.reach_gather.proofs.Finishes.{ids-list}
use Rattle.reach_gather.proofs.counting.ids_once.Goals as goal

pub returns-clause-lists : goal.returns-clause-lists
returns-clause-lists c = ids-list (flat_map namings_in c.args.noted.now) c.args.how c.in_ok-ids.ids.items c.distinct.new.items.items c.in_ok-ids.ensures c.distinct.ensures.same
