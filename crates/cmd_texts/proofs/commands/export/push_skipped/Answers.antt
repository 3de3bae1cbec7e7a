-- The line of the item at the place.
use Rattle.std.proofs.Common.{◌≡◌, ◌∙◌, ◌∷◌, [], ap}
use Rattle.std.specs.List.{flat_map}
use Rattle.std.proofs.lemmas.Grind.{flat_map-append}
use Rattle.cmd_texts.specs.Commands.ExportParts.{told_text}
use Rattle.cmd_texts.specs.declared.commands.export.Told.TheVariants.{Skipped}
use Rattle.cmd_texts.proofs.commands.export.push_skipped.Goals as goal

pub returns-clause-line : goal.returns-clause-line
returns-clause-line c =
    rw c.in_ok-item.ensures.item (ap (flat_map told_text) c.in_ok-push.ensures.items ∙ flat_map-append told_text c.args.told.now.items (Skipped c.in_ok-item.item ∷ []))
