use Rattle.std.proofs.Common.{◌≡◌, map, take}
use Rattle.std.specs.Prelude.{vec_len}
use Rattle.view_rules.specs.Facts.{Facts}
use Rattle.path_search.specs.Parts.{whats, kind_by, Rises}
use Rattle.path_walk.proofs.told.kinds_of.Given as goal

abbrev pub invariant-loop-entry : goal.invariant-loop-entry
invariant-loop-entry l = record {
  counted : l.entry-index ≡ vec_len l.kinds;
  told : (facts : Facts) → l.inodes ≡ facts.inodes → Rises l.inodes → l.kinds.items ≡ map (kind_by facts) (whats (take l.entry-index l.entries));
}
