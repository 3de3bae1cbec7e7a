-- The source still tells the same bytes.
use Rattle.std.proofs.Common.{◌∙◌}
use Rattle.cmd_texts.proofs.meant.reach.Goals as goal

pub returns-in-Ok-load_meant-clause-clear : goal.returns-in-Ok-load_meant-clause-clear
returns-in-Ok-load_meant-clause-clear g c image given = c.in-Ok-load_meant.ensures.clear image (c.in-Ok.ensures.kept.same_bytes ∙ given)
