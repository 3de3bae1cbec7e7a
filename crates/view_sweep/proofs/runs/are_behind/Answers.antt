use Rattle.std.proofs.Common.{rules, ◌-◌, ◌<◌, length, arith}
use Rattle.std.proofs.lemmas.Bool.Decides.{nat_tests}
use Rattle.apfs_model.proofs.BoolTests.{upto-from}
use Rattle.view_sweep.proofs.Rises.{behind-all}
use Rattle.view_sweep.proofs.runs.are_behind.Goals as goal

pub returns : goal.returns
returns c = λ e.
    let some : 0 < length c.args.runs.now = grind (rules, arith, nat_tests) in
    let other : 0 < length c.args.more.now = grind (rules, arith, nat_tests) in
    behind-all c.args.runs.now c.args.more.now (length c.args.runs.now - 1) c.requires.runs c.requires.more (omega arith) other (upto-from _ _ e)
