use Rattle.std.proofs.Common.{◌∙◌, ap}
use Rattle.view_rules.specs.Facts.{Facts}
use Rattle.tree_rules.specs.Notes.{hash_note}
use Rattle.view_rules.specs.Names.{has_other_name_hash}
use Rattle.rule_breaks.proofs.Finds.{noted-more}
use Rattle.tree_rules.proofs.remarks.hash_notes.Goals as goal

pub loop-e-preserved : goal.loop-e-preserved
loop-e-preserved c =
    noted-more (has_other_name_hash c.args.facts.now) (hash_note c.args.view.now) c.args.facts.now.entries c.deref-e-items.result.now c.loop-e.e-index c.e-item.result c.loop-e.notes.items c.put.new.notes.items c.in_ok-note.note
    (c.deref-e-items.ensures.value ∙ ap (λ (f : Facts). f.entries) c.facts.view_is) c.loop-e-test.true c.e-item.is c.loop-e.invariant c.in_ok-note.ensures c.in_ok-put.ensures
