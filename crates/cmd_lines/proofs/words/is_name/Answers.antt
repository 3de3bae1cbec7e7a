-- The length is right, a text is UTF-8, and none of its bytes is zero.
use Rattle.std.proofs.Common.{arith, not, ◌∙◌, ap}
use Rattle.apfs_model.specs.Lists.{has}
use Rattle.cmd_lines.proofs.Orders.{name_tested}
use Rattle.cmd_lines.proofs.words.is_name.Goals as goal

pub returns-in-1-to-255 : goal.returns-in-1-to-255
returns-in-1-to-255 c =
    ap not (c.contains.ensures.value ∙ ap (λ bytes. has bytes 0) c.as_bytes.ensures.value)
    ∙ name_tested c.args.text.now (omega (arith, c.in-1-to-255)) (omega (arith, c.in-1-to-255)) c.utf8.text
