use Rattle.std.proofs.Common.{map}
use Rattle.std.specs.String.{string_bytes}
use Rattle.cmd_words.specs.Commands.{target_app}
use Rattle.cmd_words.specs.Lines.{browse_by}
use Rattle.cmd_words.proofs.ByParts.{read_from}
use Rattle.cmd_words.proofs.reading.browse_said.Goals as goal

pub returns : goal.returns
returns c = read_from target_app _ (map string_bytes c.args.rest.now) browse_by _ _ _ c.in_ok-target_command.ensures c.in-Some.is c.in_ok-matches.ensures c.browse_in.ensures
