use Rattle.std.proofs.Common.{ap, ◌∙◌}
use Rattle.std.specs.Prelude.{not}
use Rattle.rule_index.proofs.Wholes.{any-lost}
use Rattle.rule_index.proofs.counted.Counted.has_whole_entries.Goals as goal

pub returns : goal.returns
returns c = c.args.self.now.whole_right ∙ ap not (any-lost c.args.self.now.facts.now c.args.self.now.kins c.args.self.now.kins_right)
