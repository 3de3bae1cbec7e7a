use Rattle.std.proofs.Common.{◌≡◌, ◌≤◌}
use Rattle.cmd_texts.specs.Commands.Space.{free_in}
use Rattle.cmd_texts.proofs.commands.space.free_in.Given as goal

abbrev pub invariant-each : goal.invariant-each
invariant-each l = record { counted : l.free ≡ free_in l.bits l.block; small : l.free ≤ l.block }
