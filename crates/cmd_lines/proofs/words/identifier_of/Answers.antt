-- A text is an identifier, or parses to none.
use Rattle.uuid.specs.Text.{parsed}
use Rattle.cmd_lines.proofs.Orders.{no_identifier}
use Rattle.cmd_lines.proofs.words.identifier_of.Goals as goal

pub returns-in-Err : goal.returns-in-Err
returns-in-Err c = no_identifier (parsed c.args.text.now) (λ bytes e. c.in-Err.ensures.ok.1 (bytes, e))
