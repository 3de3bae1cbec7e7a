-- The texts so far, and that of the item at hand.
use Rattle.std.proofs.Common.{◌<◌, ◌≤◌, length, arith}
use Rattle.cmd_lines.proofs.Puts.{gathers_more, gathers_cut, gathers_all}
use Rattle.cmd_texts.proofs.put.put_lines.Goals as goal

pub returns-in-Err : goal.returns-in-Err
returns-in-Err g c =
    let low : c.items.item-index < length c.args.items.now = omega arith in
    gathers_cut g.T.Line.text c.args.items.now c.items.item-index c.item-item.result c.in-Err.stopped c.items.waiting.items
    (g.W.Sink.contents c.args.out.now) (g.W.Sink.contents c.items.out) (g.W.Sink.contents c.pass.new.out)
    (g.W.Sink.faults c.args.out.now) (g.W.Sink.faults c.items.out) (g.W.Sink.faults c.pass.new.out)
    low c.item-item.is c.items.invariant c.in-Err.ensures

pub items-preserved : goal.items-preserved
items-preserved g c =
    let low : c.items.item-index < length c.args.items.now = omega arith in
    gathers_more g.T.Line.text c.args.items.now c.items.item-index c.item-item.result c.items.waiting.items c.pass.new.waiting.items
    (g.W.Sink.contents c.args.out.now) (g.W.Sink.contents c.items.out) (g.W.Sink.contents c.pass.new.out)
    (g.W.Sink.faults c.args.out.now) (g.W.Sink.faults c.items.out) (g.W.Sink.faults c.pass.new.out)
    low c.item-item.is c.items.invariant c.in-Ok.ensures

pub returns : goal.returns
returns g c =
    let whole : length c.args.items.now ≤ c.items.item-index = omega arith in
    gathers_all g.T.Line.text c.args.items.now c.items.item-index c.items.waiting.items c.put_waiting.result
    (g.W.Sink.contents c.args.out.now) (g.W.Sink.contents c.items.out) (g.W.Sink.contents c.put_waiting.new.out)
    (g.W.Sink.faults c.args.out.now) (g.W.Sink.faults c.items.out) (g.W.Sink.faults c.put_waiting.new.out)
    whole c.items.invariant c.put_waiting.ensures.put
