-- Each command on an image takes one that is handed in.
use Rattle.std.specs.Prelude.{◌≡◌, refl}
use Rattle.cmd_lines.specs.declared.words.Command.{Command}
use Rattle.cmd_lines.specs.declared.words.Command.TheVariants as commands
use Rattle.cmd_texts.specs.ByCommand.{HandedIn, from_of}
use Rattle.cmd_lines.specs.Lent.{said}

-- each command on an image takes one
pub handed_in : (command : Command) → from_of (said command) ≡ HandedIn
handed_in commands.Ring = refl
handed_in command = refl
