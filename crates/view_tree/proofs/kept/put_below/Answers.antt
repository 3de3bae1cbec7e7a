-- The lines so far, and that of the row at hand.
use Rattle.std.proofs.Common.{◌<◌, ◌≤◌, length, arith}
use Rattle.view_tree.proofs.RowsPut.{gathers_none, gathers_more, gathers_cut, gathers_all, path_to}
use Rattle.view_tree.proofs.kept.put_below.Goals as goal

pub rows-init : goal.rows-init
rows-init g c = record {
  path = c.new-path.ensures.items;
  lines = gathers_none (g.W.Sink.contents c.args.out.now) (g.W.Sink.faults c.args.out.now) c.new-waiting.result.items c.new-waiting.ensures.items;
}

pub returns-in-Err : goal.returns-in-Err
returns-in-Err g c =
    let low : c.rows.row-index < length c.args.rows.now = omega arith in
    gathers_cut c.args.rows.now c.rows.row-index c.row-item.result c.rows.path.items c.in-Err.stop c.rows.waiting.items
    (g.W.Sink.contents c.args.out.now) (g.W.Sink.contents c.rows.out) (g.W.Sink.contents c.pass.new.out)
    (g.W.Sink.faults c.args.out.now) (g.W.Sink.faults c.rows.out) (g.W.Sink.faults c.pass.new.out)
    low c.row-item.is c.rows.invariant.path c.rows.invariant.lines c.in-Err.ensures.passes

pub rows-preserved : goal.rows-preserved
rows-preserved g c =
    let low : c.rows.row-index < length c.args.rows.now = omega arith in
    record {
      path = path_to c.args.rows.now c.rows.row-index c.row-item.result c.rows.path.items c.pass.new.path.items low c.row-item.is c.rows.invariant.path c.in-Ok.ensures.path;
      lines = gathers_more c.args.rows.now c.rows.row-index c.row-item.result c.rows.path.items c.rows.waiting.items c.pass.new.waiting.items
          (g.W.Sink.contents c.args.out.now) (g.W.Sink.contents c.rows.out) (g.W.Sink.contents c.pass.new.out)
          (g.W.Sink.faults c.args.out.now) (g.W.Sink.faults c.rows.out) (g.W.Sink.faults c.pass.new.out)
          low c.row-item.is c.rows.invariant.path c.rows.invariant.lines c.in-Ok.ensures.passes;
    }

pub returns : goal.returns
returns g c =
    let whole : length c.args.rows.now ≤ c.rows.row-index = omega arith in
    gathers_all c.args.rows.now c.rows.row-index c.rows.waiting.items c.put_waiting.result
    (g.W.Sink.contents c.args.out.now) (g.W.Sink.contents c.rows.out) (g.W.Sink.contents c.put_waiting.new.out)
    (g.W.Sink.faults c.args.out.now) (g.W.Sink.faults c.rows.out) (g.W.Sink.faults c.put_waiting.new.out)
    whole c.rows.invariant.lines c.put_waiting.ensures.put
