use Rattle.std.proofs.Common.{rules}
use Rattle.view_sweep.proofs.Members.{kept-push, at-push, sets-push}
use Rattle.view_sweep.proofs.sets.keep.Goals as goal

pub returns-clause-kept : goal.returns-clause-kept
returns-clause-kept c = kept-push c.args.sets.now.items c.push.new.self.items (record { runs = c.args.runs }) c.in_ok-push.ensures.items

pub returns-clause-at : goal.returns-clause-at
returns-clause-at c = at-push c.args.sets.now.items c.push.new.self.items (record { runs = c.args.runs }) _ (search rules) c.in_ok-push.ensures.items

pub returns-clause-sets : goal.returns-clause-sets
returns-clause-sets c = λ views old is. sets-push views c.args.sets.now.items c.push.new.self.items (record { runs = c.args.runs }) c.in_ok-push.ensures.items old is
