use Rattle.std.proofs.Common.{◌≡◌, length, take}
use Rattle.view_rules.specs.Facts.{Facts}
use Rattle.path_search.specs.Needs.{HaveFiles}
use Rattle.path_search.specs.Parts.{whats, targets_by, targets_with, Rises}
use Rattle.path_walk.proofs.by_memory.kinds_in.Given as goal

abbrev pub invariant-loop-entry : goal.invariant-loop-entry
invariant-loop-entry l = record {
  counted : l.entry-index ≡ length l.kinds.items;
  targets : (facts : Facts) → l.inodes ≡ facts.inodes → Rises l.inodes → targets_with (take l.entry-index l.entries) l.kinds.items ≡ targets_by facts (whats (take l.entry-index l.entries));
  files : (facts : Facts) → l.inodes ≡ facts.inodes → Rises l.inodes → HaveFiles facts (whats (take l.entry-index l.entries));
}
