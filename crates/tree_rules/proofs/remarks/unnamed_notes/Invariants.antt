use Rattle.std.proofs.Common.{◌≡◌, ◌++◌, take, map}
use Rattle.std.specs.Prelude.{filter}
use Rattle.tree_rules.specs.Notes.{unnamed_note, is_unnamed}
use Rattle.tree_rules.proofs.remarks.unnamed_notes.Given as goal

abbrev pub invariant-loop-f : goal.invariant-loop-f
invariant-loop-f l = l.notes.items ≡ l.initial.notes.items ++ map (unnamed_note l.view) (filter (is_unnamed l.index.facts.now) (take l.f-index l.index.facts.now.inodes))
