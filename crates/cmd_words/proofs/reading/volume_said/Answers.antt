use Rattle.std.proofs.Common.{map}
use Rattle.std.specs.String.{string_bytes}
use Rattle.cmd_words.specs.Commands.{volume_app}
use Rattle.cmd_words.specs.Lines.{volume_alone}
use Rattle.cmd_words.proofs.ByParts.{read_from}
use Rattle.cmd_words.proofs.reading.volume_said.Goals as goal

pub returns : goal.returns
returns c = read_from volume_app _ (map string_bytes c.args.rest.now) volume_alone _ _ _ c.in_ok-volume_command.ensures c.in-Some.is c.in_ok-matches.ensures c.volume_in.ensures
