use Rattle.std.proofs.Common.{◌≡◌, ◌+◌, ◌-◌, take, length, arith, sym, subst, length-take}
use Rattle.std.proofs.lemmas.Grind.{common_steps}
use Rattle.std.proofs.lemmas.Slice.{take-put_mid}
use Rattle.apfs_model.specs.Source.{Copies}
use Rattle.blk_cache.proofs.Ranges.{copies-append}
use Rattle.blk_cache.proofs.part.pass.Goals as goal

pub returns-clause-found : goal.returns-clause-found
returns-clause-found g c = λ image told before.
    let done = c.args.done in
    let len = c.args.len in
    let front = take done c.args.into.now in
    let long : length front ≡ done = omega (arith, length-take done c.args.into.now, c.requires.within) in
    let both = copies-append image front c.read_at.new.into c.args.at (c.args.at + done) before (c.in_ok-read_at.ensures.found image told) (omega (arith, long)) in
    let shown = take-put_mid done (done + len - done) c.args.into.now c.read_at.new.into (done + len) (grind (arith, common_steps, c.read_at.auto.into, c.requires.within)) (omega (arith, c.requires.within)) in
    subst (Copies image c.args.at) (sym shown) both
