use Rattle.std.proofs.Common.{◌≡◌, ◌++◌, take}
use Rattle.std.specs.List.{flat_map, enumerate_from}
use Rattle.cmd_texts.specs.Commands.Space.{chunk_text}
use Rattle.cmd_texts.proofs.commands.space.push_chunks.Given as goal

abbrev pub invariant-chunks : goal.invariant-chunks
invariant-chunks l = l.text.items ≡ l.fn.text.items ++ flat_map chunk_text (take l.number (enumerate_from 0 l.chunks))
