-- A refused piece leaves the contents as they were.
use Rattle.std.proofs.Common.{◌≡◌, ◌∙◌, refl, ap, [], Some}
use Rattle.blk_folder.specs.Memory.{MemoryFolder}
use Rattle.blk_folder.proofs.Held.{with_no_more}
use Rattle.blk_folder.proofs.memory.MemFolderFolder.append.Goals as goal

pub returns-then-refuses-clause-part : goal.returns-then-refuses-clause-part
returns-then-refuses-clause-part c held told =
    let kept : c.fail.new.self.contents ≡ c.args.self.now.contents = ap (λ (f : MemoryFolder). f.contents) c.fail.ensures.counts ∙ ap (λ (f : MemoryFolder). f.contents) c.refuses_next-refuses.ensures.counts in
    let same : c.args.self.now.contents ≡ held = Prim.cc in
    ([], c.args.piece.now, refl, ap Some (kept ∙ same ∙ with_no_more held))
