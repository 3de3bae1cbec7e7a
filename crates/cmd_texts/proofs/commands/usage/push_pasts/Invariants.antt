use Rattle.std.proofs.Common.{◌≡◌, ◌++◌, map}
use Rattle.std.specs.List.{flat_map}
use Rattle.cmd_texts.specs.Commands.Usage.{past_text}
use Rattle.cmd_texts.proofs.commands.usage.push_pasts.Given as goal

abbrev pub invariant-pasts : goal.invariant-pasts
invariant-pasts l = l.text.items ≡ l.fn.text.items ++ flat_map past_text (map (λ past. (past.0.now, past.1.now)) l.yielded)
