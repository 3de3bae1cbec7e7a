use Rattle.std.proofs.Common.{◌<◌, length, Some, arith}
use Rattle.std.proofs.lemmas.Bool.Decides.{nat_tests}
use Rattle.vol_view.proofs.HeadsKept.{head-kept}
use Rattle.tree_cases.proofs.tests.opened.volume_of.Goals as goal

pub load-requires-clause-head : goal.load-requires-clause-head
load-requires-clause-head c =
    let low : 0 < length c.in-Ok.found.items = grind (arith, nat_tests, c.if-is_empty.ensures) in
    head-kept (Some c.args.src.now.bytes) (Some c.heads.new.src.bytes) c.args.cp.now c.in-Ok.found.items 0 c.index.result.now c.in-Ok.ensures.each c.in-Ok.ensures.kept.same_bytes low c.index.ensures
