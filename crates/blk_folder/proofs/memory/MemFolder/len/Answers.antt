use Rattle.std.proofs.Common.{◌∙◌, ap, sym, length}
use Rattle.blk_folder.specs.Memory.{MemoryFolder}
use Rattle.blk_folder.proofs.Held.{length_items}
use Rattle.blk_folder.proofs.memory.MemFolder.len.Goals as goal

pub returns : goal.returns
returns c =
    let inside = c.self.inside in
    c.len.ensures ∙ inside.places.ok.0 ∙ sym (length_items inside.text.items inside.places.items) ∙ ap (λ (f : MemoryFolder). length f.contents) c.self.view_is
