use Rattle.std.proofs.Common.{◌≡◌, ◌≤◌, All}
use Rattle.std.specs.Prelude.{vec_len, vec_capacity}
use Rattle.bt_cursor.specs.Stack.{IsLong}
use Rattle.bt_cursor.proofs.start.buffers.Given as goal

abbrev pub invariant-loop-i : goal.invariant-loop-i
invariant-loop-i l = record {
  long : All (IsLong l.site) l.buffers.items;
  full : vec_len l.buffers ≡ l.i;
  capacity : l.count ≤ vec_capacity l.buffers;
}
