-- As many items as were counted have gone.
use Rattle.std.proofs.Common.{◌≡◌, ◌++◌, take, drop}
use Rattle.view_change.proofs.ring.Ring.pass.Given as goal

abbrev pub invariant-items : goal.invariant-items
invariant-items g l = record {
  left : l.self.0 ≡ drop l.counter l.fn.self.0;
  taken : l.self.1 ≡ l.fn.self.1;
  moved : l.to.items ≡ l.fn.to.items ++ take l.counter l.fn.self.0;
}
