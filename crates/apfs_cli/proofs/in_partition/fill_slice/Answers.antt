-- What is said of the slice is said of the part of the disk.
use Rattle.std.proofs.Common.{◌≡◌, ◌∙◌, ℕ, List, Option, ap, subst, sym}
use Rattle.apfs_model.specs.Counts.{Rose}
use Rattle.img_gpt.specs.Slices.{sliced}
use Rattle.img_gpt.specs.declared.slice.Slice.{Slice}
use Rattle.cmd_words.specs.Lent.{target_asked}
use Rattle.cmd_texts.specs.Handed.{Looked, LookFailed, looked, part_looked, stored}
use Rattle.cmd_lines.specs.Words.{Export}
use Rattle.cmd_lines.specs.Written.{sunk}
use Rattle.cmd_texts.proofs.Fillings.{into_same}
use Rattle.apfs_cli.proofs.in_partition.fill_slice.Goals as goal

pub returns-clause-answer : goal.returns-clause-answer
returns-clause-answer g c =
    let bytes = g.S.BlockSource.bytes in
    let faults = g.S.BlockSource.faults in
    let slice = c.new-slice.result in
    let part = c.args.part in
    let old : Looked = looked (λ (s : Slice g.row.S.Denot g.row.O.Denot g.S.BlockSource g.O.Origin). sliced s.start s.length (bytes s.inner)) (λ (s : Slice g.row.S.Denot g.row.O.Denot g.S.BlockSource g.O.Origin). faults s.inner) slice c.fill_cached-ended.result.1 in
    let new : Looked = part_looked part (looked bytes faults c.args.src c.into_inner.result) in
    let told : old.bytes ≡ new.bytes =
    ap (λ (n : ℕ). sliced n slice.length (bytes slice.inner)) c.new-slice.ensures.from
    ∙ ap (λ (n : ℕ). sliced part.start n (bytes slice.inner)) c.new-slice.ensures.length
    ∙ ap (λ (held : Option (List ℕ)). sliced part.start part.length held) (ap bytes c.new-slice.ensures.inner) in
    let P : ℕ → Type 0 = λ n. Rose n (faults c.fill_cached-ended.result.1.inner) in
    let Q : ℕ → Type 0 = λ n. Rose (faults c.args.src) n in
    let rises : LookFailed old → LookFailed new = λ rose. subst Q (sym (ap faults c.into_inner.ensures.inner)) (subst P (ap faults c.new-slice.ensures.inner) rose) in
    into_same (Export (target_asked c.args.target)) old new (stored g.F.Folder.contents g.F.Folder.faults c.args.folder.now c.fill_cached-ended.new.folder) c.fill_cached-ended.result.0 (sunk g.W.Sink.contents g.W.Sink.faults c.args.out.now c.fill_cached-ended.new.out) told rises c.fill_cached-ended.ensures.answer
