use Rattle.std.proofs.Common.{◌≡◌, take, map}
use Rattle.std.specs.Prelude.{filter}
use Rattle.tree_rules.specs.Notes.{hash_note}
use Rattle.view_rules.specs.Names.{has_other_name_hash}
use Rattle.tree_rules.proofs.remarks.hash_notes.Given as goal

abbrev pub invariant-loop-e : goal.invariant-loop-e
invariant-loop-e l = l.notes.items ≡ map (hash_note l.view) (filter (has_other_name_hash l.facts) (take l.e-index l.facts.entries))
