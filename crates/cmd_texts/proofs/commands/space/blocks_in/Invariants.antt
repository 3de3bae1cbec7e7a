use Rattle.std.proofs.Common.{◌≡◌, take}
use Rattle.cmd_texts.specs.Commands.Space.{blocks_in}
use Rattle.cmd_texts.proofs.commands.space.blocks_in.Given as goal

abbrev pub invariant-entries : goal.invariant-entries
invariant-entries l = l.blocks ≡ blocks_in (take l.entry-index l.entries)
