use Rattle.std.proofs.Common.{map}
use Rattle.std.specs.String.{string_bytes}
use Rattle.cmd_words.specs.Commands.{xattr_app}
use Rattle.cmd_words.specs.Lines.{xattr_by}
use Rattle.cmd_words.proofs.ByParts.{read_from}
use Rattle.cmd_words.proofs.reading.xattr_line.Goals as goal

pub returns : goal.returns
returns c = read_from xattr_app _ (map string_bytes c.args.rest.now) xattr_by _ _ _ c.in_ok-xattr_command.ensures c.in-Some.is c.in_ok-matches.ensures c.xattr_in.ensures
