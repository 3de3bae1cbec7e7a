use Rattle.std.proofs.Common.{map}
use Rattle.std.specs.String.{string_bytes}
use Rattle.cmd_words.specs.Commands.{view_app}
use Rattle.cmd_words.specs.Lines.{root_by}
use Rattle.cmd_words.proofs.ByParts.{read_from}
use Rattle.cmd_words.proofs.reading.root_said.Goals as goal

pub returns : goal.returns
returns c = read_from view_app _ (map string_bytes c.args.rest.now) root_by _ _ _ c.in_ok-view_command.ensures c.in-Some.is c.in_ok-matches.ensures c.root_in.ensures
