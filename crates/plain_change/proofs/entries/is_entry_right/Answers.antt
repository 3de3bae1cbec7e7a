use Rattle.std.proofs.Common.{sym, ◌∙◌}
use Rattle.apfs_model.proofs.BoolTests.{not-true}
use Rattle.plain_change.proofs.entries.is_entry_right.Goals as goal

pub returns : goal.returns
returns c holds = record {
  hash = sym c.has_other_ascii_hash.ensures ∙ c.if-has_other_ascii_hash.false;
  parent = sym c.lacks_parent.ensures ∙ c.if-lacks_parent.false;
  file = sym c.lacks_inode.ensures ∙ c.if-lacks_inode.false;
  kind = sym c.has_other_kind.ensures ∙ c.if-has_other_kind.false;
  mark = sym c.is_unmarked.ensures ∙ not-true c.is_unmarked.result holds;
}
