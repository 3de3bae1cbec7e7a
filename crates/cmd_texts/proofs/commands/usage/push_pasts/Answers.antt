-- The lines of all snapshots with their numbers.
use Rattle.std.proofs.Common.{◌++◌, ap, ◌∙◌}
use Rattle.std.specs.List.{flat_map}
use Rattle.std.proofs.lemmas.Iterator.{YieldsList-from_slice, YieldsList-from_zip}
use Rattle.std.proofs.lemmas.Iterator.Consumers.{YieldsList-end}
use Rattle.cmd_texts.specs.Commands.Usage.{past_text}
use Rattle.cmd_texts.proofs.commands.usage.push_pasts.Goals as goal

pub returns : goal.returns
returns c =
    let all = YieldsList-end (YieldsList-from_zip (YieldsList-from_slice c.args.snapshots.now cc) (YieldsList-from_slice c.args.pasts.now cc)) c.pasts.yielded c.pasts.snapshot-iterator c.pasts.yielded_by _ c.next.new.self c.in-None.is c.next.ensures.steps in
    c.pasts.invariant ∙ ap (λ l. c.args.text.now.items ++ flat_map past_text l) all.0
