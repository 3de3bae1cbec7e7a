use Rattle.std.proofs.Common.{◌≡◌, true, sym, ◌∙◌}
use Rattle.apfs_model.proofs.BoolTests.{not-true}
use Rattle.fs_record.specs.Facts.{Fact, all_for}
use Rattle.fs_record.specs.StreamExtents.{are_extents_ordered}
use Rattle.fs_record.specs.declared.extents.FileExt.{FileExt}
use Rattle.view_rules.specs.Inodes.{has_large_stream, has_large_body}
use Rattle.rule_changes.proofs.Weaving.{none-in}
use Rattle.plain_change.specs.Parts.{IsExtentRight}
use Rattle.plain_change.proofs.Looks.{each-in}
use Rattle.plain_change.proofs.Appended.{order-clear}
use Rattle.plain_change.proofs.extents.are_streams_right.Goals as goal

pub returns-then-not-have_large_streams : goal.returns-then-not-have_large_streams
returns-then-not-have_large_streams c holds =
    let site = c.args.asked.now.site.now in
    let ranges = c.args.asked.now.ranges.now in
    let after = c.args.after.now.index.now.facts.now in
    let gone = c.args.gone.now in
    let come = c.args.come.now in
    record {
      order = order-clear site.block_size after gone come
          (each-in (λ (f : Fact FileExt). are_extents_ordered site.block_size (all_for f.id after.extents) ≡ true) gone.extents (c.are_streams_ordered.ensures c.if-not-are_streams_ordered.false))
          (each-in (λ (f : Fact FileExt). are_extents_ordered site.block_size (all_for f.id after.extents) ≡ true) come.extents (c.are_streams_ordered-2.ensures c.if-not-are_streams_ordered-2.false));
      places = λ f listed. (each-in (IsExtentRight site ranges) come.extents (c.are_extents_right.ensures c.if-not-are_extents_right.false) f listed).place;
      cover = λ f listed. (each-in (IsExtentRight site ranges) come.extents (c.are_extents_right.ensures c.if-not-are_extents_right.false) f listed).cover;
      streams = none-in has_large_stream come.inodes (sym c.have_large_streams.ensures ∙ c.if-not-have_large_streams.true);
      bodies = none-in has_large_body come.attributes (sym c.have_large_bodies.ensures ∙ not-true c.have_large_bodies.result holds);
    }
