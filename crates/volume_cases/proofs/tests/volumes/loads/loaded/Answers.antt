use Rattle.std.proofs.Common.{◌<◌, Some, length, arith}
use Rattle.std.proofs.lemmas.Bool.Decides.{nat_tests}
use Rattle.vol_view.proofs.HeadsKept.{head-kept}
use Rattle.volume_cases.proofs.tests.volumes.loads.loaded.Goals as goal

pub load-requires-clause-head : goal.load-requires-clause-head
load-requires-clause-head c =
    let heads = c.in-Ok-heads.found in
    let some : 0 < length heads.items = grind (arith, nat_tests, heads.ok.0, c.is_empty.ensures, c.if-is_empty.false) in
    head-kept (Some c.newest.new.src.bytes) (Some c.heads.new.src.bytes) c.in-Ok.cp heads.items 0 c.index.result.now c.in-Ok-heads.ensures.each c.heads.ensures.kept.same_bytes some c.index.ensures
