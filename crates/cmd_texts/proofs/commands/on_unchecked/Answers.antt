-- `usage` is run after its check.
use Rattle.cmd_texts.proofs.commands.on_unchecked.Goals as goal

pub write-requires-in-Usage : goal.write-requires-in-Usage
write-requires-in-Usage g c = record { clean = rw c.in-Usage.is at c.requires.clean }
