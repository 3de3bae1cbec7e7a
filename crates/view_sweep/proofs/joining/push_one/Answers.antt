use Rattle.std.proofs.Common.{refl}
use Rattle.view_sweep.proofs.Joins.{joined-new, sets-new}
use Rattle.view_sweep.proofs.joining.push_one.Goals as goal

pub returns : goal.returns
returns c = record {
  joined = joined-new c.args.wanted.now c.args.set.now c.args.all.now.items c.push.new.self.items (record { wanted = c.args.wanted.now; set = c.in_ok-set.set }) c.in_ok-push.ensures.items refl c.in_ok-set.ensures;
  sets = λ views all is. sets-new views c.args.set.now c.args.all.now.items c.push.new.self.items (record { wanted = c.args.wanted.now; set = c.in_ok-set.set }) c.in_ok-push.ensures.items c.in_ok-set.ensures all is;
}
