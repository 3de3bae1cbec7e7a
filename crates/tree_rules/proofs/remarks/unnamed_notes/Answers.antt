use Rattle.std.proofs.Common.{◌∙◌, ap}
use Rattle.view_rules.specs.Facts.{Facts}
use Rattle.tree_rules.specs.Notes.{unnamed_note, is_unnamed}
use Rattle.rule_breaks.proofs.Finds.{noted-after}
use Rattle.tree_rules.proofs.remarks.unnamed_notes.Goals as goal

pub loop-f-preserved : goal.loop-f-preserved
loop-f-preserved c =
    noted-after (is_unnamed c.args.index.now.facts.now) (unnamed_note c.args.view.now) c.args.index.now.facts.now.inodes c.deref-f-items.result.now c.loop-f.f-index c.f-item.result c.args.before.items c.loop-f.notes.items c.put.new.notes.items c.unnamed_note.result
    (c.deref-f-items.ensures.value ∙ ap (λ (f : Facts). f.inodes) c.facts.view_is) c.loop-f-test.true c.f-item.is c.loop-f.invariant c.unnamed_note.ensures c.in_ok-put.ensures
