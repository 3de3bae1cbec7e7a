use Rattle.std.proofs.Common.{◌-◌, refl, arith}
use Rattle.reach_gather.proofs.Onces.{one-more, one-all, twice-there}
use Rattle.reach_gather.proofs.once.beside.Goals as goal

pub returns-then-is_clash-clause-present : goal.returns-then-is_clash-clause-present
returns-then-is_clash-clause-present c = λ image live.
    twice-there image c.args.cp.now c.args.namings.now c.args.how c.requires.alike c.requires.each live (c.loop-i.i - 1) c.loop-i.i (omega arith) c.loop-i-test.true (c.if-is_clash.ensures.clash refl)
    c.within_of.result c.xid_of.result c.within_of.ensures c.xid_of.ensures

pub loop-i-preserved : goal.loop-i-preserved
loop-i-preserved c =
    one-more c.args.namings.now c.requires.sorted c.loop-i.i c.loop-i-test.true c.loop-i.invariant
    (λ pos same. c.if-is_clash.ensures.alike refl same)

pub returns-clause-once : goal.returns-clause-once
returns-clause-once c = one-all c.args.namings.now c.loop-i.i c.loop-i-test.false c.loop-i.invariant
