use Rattle.std.proofs.Common.{◌≤◌, length, take}
use Rattle.view_change.specs.Settled.{IsSettled}
use Rattle.view_change.proofs.runs.settle_each.Given as goal

abbrev pub invariant-passed : goal.invariant-passed
invariant-passed g l = record {
  within : l.from ≤ length l.read;
  told : IsSettled l.yielded (take l.from l.read) l.fn.gone.items l.gone.items l.fn.come.items l.come.items;
}
