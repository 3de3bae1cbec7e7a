use Rattle.std.proofs.Common.{◌<◌, Some, length, arith}
use Rattle.vol_view.proofs.HeadsKept.{head-kept}
use Rattle.path_cases.proofs.tests.opened.volume_in.Goals as goal

pub load-requires-clause-head : goal.load-requires-clause-head
load-requires-clause-head c =
    let low : c.args.place < length c.in-Ok.found.items = omega (arith, c.len.ensures) in
    head-kept (Some c.args.src.now.bytes) (Some c.heads.new.src.bytes) c.args.cp.now c.in-Ok.found.items c.args.place c.index.result.now c.in-Ok.ensures.each c.in-Ok.ensures.kept.same_bytes low c.index.ensures
