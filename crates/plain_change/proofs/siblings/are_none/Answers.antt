use Rattle.std.proofs.Common.{sym, ◌∙◌}
use Rattle.apfs_model.proofs.BoolTests.{not-true}
use Rattle.rule_changes.specs.Known.{is_marked}
use Rattle.rule_changes.proofs.Weaving.{none-in}
use Rattle.plain_change.proofs.siblings.are_none.Goals as goal

pub returns-then-has_no_maps : goal.returns-then-has_no_maps
returns-then-has_no_maps c holds = record {
  links = c.has_no_links.ensures c.if-not-has_no_links.false;
  siblings = c.has_no_maps.ensures c.if-has_no_maps.true;
  entries = none-in is_marked c.args.facts.now.entries (sym c.has_marks.ensures ∙ not-true c.has_marks.result holds);
}
