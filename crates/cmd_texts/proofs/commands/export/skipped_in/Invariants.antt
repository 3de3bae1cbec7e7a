use Rattle.std.proofs.Common.{◌≡◌, map, take}
use Rattle.std.specs.Prelude.{filter_map, slice_get}
use Rattle.std.specs.List.{flat_map}
use Rattle.view_tree.specs.Trails.{IsOn}
use Rattle.tree_export.specs.Exported.{item_of}
use Rattle.tree_export.specs.Texts.{skipped_text}
use Rattle.cmd_texts.specs.Commands.ExportParts.{told_text}
use Rattle.cmd_texts.proofs.commands.export.skipped_in.Given as goal

abbrev pub invariant-places : goal.invariant-places
invariant-places l = record {
  on : IsOn l.rows l.trail;
  lines : flat_map told_text l.told.items ≡ flat_map skipped_text (filter_map (slice_get (map item_of l.rows)) (take l.place-index l.places));
}
