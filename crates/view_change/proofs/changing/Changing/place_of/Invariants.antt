-- The leaf isn't among those that were looked at.
use Rattle.std.proofs.Common.{◌≡◌, false, take, drop}
use Rattle.view_change.specs.Shared.{is_among}
use Rattle.view_change.specs.Changing.{leaves_left}
use Rattle.view_change.proofs.changing.Changing.place_of.Given as goal

abbrev pub invariant-next : goal.invariant-next
invariant-next l = is_among (take l.ahead (drop l.from (leaves_left l.self))) l.leaf ≡ false
