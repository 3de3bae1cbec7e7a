use Rattle.std.proofs.Common.{map}
use Rattle.std.specs.String.{string_bytes}
use Rattle.cmd_words.specs.Commands.{check_app}
use Rattle.cmd_words.specs.Lines.{check_by}
use Rattle.cmd_words.proofs.ByParts.{read_from}
use Rattle.cmd_words.proofs.reading.check_line.Goals as goal

pub returns : goal.returns
returns c = read_from check_app _ (map string_bytes c.args.rest.now) check_by _ _ _ c.in_ok-check_command.ensures c.in-Some.is c.in_ok-matches.ensures c.check_in.ensures
