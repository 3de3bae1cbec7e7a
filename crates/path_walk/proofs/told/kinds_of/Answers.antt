use Rattle.std.proofs.Common.{◌≡◌, ◌<◌, ◌∙◌, ℕ, length, arith, ap}
use Rattle.std.specs.Prelude.{option_map}
use Rattle.view_rules.specs.Facts.{inode_at}
use Rattle.path_search.specs.Parts.{kind_told, kind_by}
use Rattle.path_search.proofs.Listed.{told_more, told_done}
use Rattle.path_walk.proofs.told.kinds_of.Goals as goal

pub loop-entry-preserved : goal.loop-entry-preserved
loop-entry-preserved c = record {
  counted = omega (arith, c.in_ok-push.ensures.len);
  told = λ facts same rise.
      let low : c.loop-entry.entry-index < length c.args.entries.now = omega arith in
      c.in_ok-push.ensures.items
      ∙ told_more (kind_by facts) c.args.entries.now c.loop-entry.entry-index c.entry-item.result c.kind_in.result c.loop-entry.kinds.items low c.entry-item.is (c.kind_in.ensures facts same rise ∙ ap (λ (i : ℕ). option_map kind_told (inode_at facts i)) c.file_id.ensures) (c.loop-entry.invariant.told facts same rise);
}

pub returns-clause-told : goal.returns-clause-told
returns-clause-told c facts same rise =
    let end : c.loop-entry.entry-index ≡ length c.args.entries.now = omega arith in
    told_done (kind_by facts) c.args.entries.now c.loop-entry.entry-index c.loop-entry.kinds.items end (c.loop-entry.invariant.told facts same rise)
