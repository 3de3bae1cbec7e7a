use Rattle.apfs_check.proofs.Short.{at-in}
use Rattle.apfs_check.proofs.views.again.Goals as goal

pub returns-then-have_one_tree-clause-same : goal.returns-then-have_one_tree-clause-same
returns-then-have_one_tree-clause-same c = at-in c.args.passed.now c.passed.i _ c.passed-test.true
