use Rattle.vol_view.proofs.HeadsKept.{head-kept}
use Rattle.sweep_cases.proofs.tests.accounts.load_all.Goals as goal

pub load-requires-clause-head : goal.load-requires-clause-head
load-requires-clause-head g c =
    head-kept (g.S.BlockSource.bytes c.args.src.now) (g.S.BlockSource.bytes c.each.src) c.args.cp.now c.args.heads.now c.each.head-index c.head-item.result c.requires.heads c.each.invariant.same_bytes c.each-test.true c.head-item.is
