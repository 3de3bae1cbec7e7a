use Rattle.std.proofs.Common.{◌≤◌, subst}
use Rattle.view_rules.specs.Facts.{Facts, entry_count}
use Rattle.rule_index.proofs.index.Index.has_single_entries.Goals as goal

pub returns-in-Some : goal.returns-in-Some
returns-in-Some c = λ yes id. subst (λ (f : Facts). entry_count f id ≤ 1) c.in-Some.ensures (c.has_single_entries.ensures yes id)
