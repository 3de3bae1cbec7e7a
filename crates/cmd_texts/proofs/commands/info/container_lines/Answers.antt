-- What is formatted is what the numbers and the identifier's text are.
use Rattle.cmd_texts.proofs.commands.info.container_lines.Goals as goal

pub returns : goal.returns
returns c = rw (← c.requires, ← c.block_size-size.ensures, ← c.block_count-blocks.ensures) c.format.ensures.ok
