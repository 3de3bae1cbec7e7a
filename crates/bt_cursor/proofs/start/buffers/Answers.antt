use Rattle.std.proofs.Common.{sym, subst, All, arith}
use Rattle.std.proofs.lemmas.List.Elements.{All-push}
use Rattle.bt_cursor.specs.Stack.{IsLong}
use Rattle.bt_cursor.proofs.start.buffers.Goals as goal

pub loop-i-preserved : goal.loop-i-preserved
loop-i-preserved c = record {
  long = subst (All (IsLong c.args.site.now)) (sym c.push_reserved.ensures.items) (All-push (IsLong c.args.site.now) c.loop-i.buffers.items c.in_ok-blank.field-0 c.loop-i.invariant.long c.in_ok-blank.ensures.long);
  full = omega (arith, c.push_reserved.ensures.len);
  capacity = omega (arith, c.push_reserved.ensures.capacity);
}
