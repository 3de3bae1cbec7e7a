use Rattle.std.proofs.Common.{refl}
use Rattle.view_change.proofs.Underway.{settles}
use Rattle.view_change.proofs.changing.Changing.settle.Goals as goal

pub returns-clause-held : goal.returns-clause-held
returns-clause-held g c start site image leaves left had =
    let now = c.args.self.now in
    let put = c.in_ok-put.ensures in
    let told = c.in_ok-settle.ensures in
    let new = record now { stock = c.put.new.self; after = record now.after { facts = c.put.new.facts }; passed = c.settle.new.passed; gone = c.settle.new.gone; come = c.settle.new.come } in
    settles g.K.TreeKey.shape site image start now new leaves left refl refl refl put.left put.taken told.none put.none told.settled had
