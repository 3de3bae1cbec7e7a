-- The lines so far, and that of the place at hand.
use Rattle.std.proofs.Common.{◌++◌, ◌∙◌, ◌<◌, ℕ, [], ap, length, map, sym, get_or, arith}
use Rattle.std.specs.Prelude.{slice_get}
use Rattle.std.specs.List.{cons_option, flat_map}
use Rattle.std.proofs.lemmas.List.Elements.{All-get_or}
use Rattle.tree_export.specs.Exported.{item_of}
use Rattle.tree_export.specs.Texts.{skipped_text}
use Rattle.cmd_texts.proofs.Exports.{skipped_more}
use Rattle.cmd_texts.proofs.commands.export.skipped_in.Goals as goal

pub push_skipped-requires-clause-low : goal.push_skipped-requires-clause-low
push_skipped-requires-clause-low c = All-get_or (λ (place : ℕ). place < length c.args.rows.now) c.args.places.now c.places.place-index 0 (omega arith) c.requires

pub places-init : goal.places-init
places-init c = record { on = c.new-trail.ensures c.args.rows.now; lines = ap (flat_map _) c.new-told.ensures.items }

pub places-preserved : goal.places-preserved
places-preserved c = record {
  on = c.in_ok-push_skipped.ensures.on;
  lines =
      c.in_ok-push_skipped.ensures.line
      ∙ (ap (λ l. l ++ flat_map skipped_text (cons_option (slice_get (map item_of c.args.rows.now) (get_or c.args.places.now c.places.place-index 0)) [])) c.places.invariant.lines
      ∙ sym (skipped_more (map item_of c.args.rows.now) c.args.places.now c.places.place-index 0 (omega arith)));
}
