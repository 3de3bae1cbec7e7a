-- What is said of the cache is said of the source in it.
use Rattle.std.proofs.Common.{◌≡◌, ◌∙◌, ◌≤◌, ap}
use Rattle.apfs_model.specs.Counts.{Rose}
use Rattle.blk_cache.specs.declared.cached.Cached.{Cached}
use Rattle.cmd_words.specs.Lent.{target_asked}
use Rattle.cmd_texts.specs.Handed.{looked, stored}
use Rattle.cmd_lines.specs.Words.{Export}
use Rattle.cmd_lines.specs.Written.{sunk}
use Rattle.cmd_lines.specs.declared.stopped.Stopped.TheVariants.{ReadFailed, OutOfMemory}
use Rattle.cmd_texts.proofs.Endings.{read_ended, no_memory_ended}
use Rattle.cmd_texts.proofs.Fillings.{into_same, kept_store, unfilled}
use Rattle.cmd_lines.proofs.Puts.{rose_later}
use Rattle.apfs_cli.proofs.over_cache.fill_cached.Goals as goal

pub returns-in-Ok-new-clause-answer : goal.returns-in-Ok-new-clause-answer
returns-in-Ok-new-clause-answer g c =
    let bytes = g.S.BlockSource.bytes in
    let faults = g.S.BlockSource.faults in
    let inner : c.in-Ok-new.cache.inner ≡ c.kept_size_of.new.src = c.in-Ok-new.ensures.inner in
    let back : c.into_inner.result ≡ c.write-ended.new.src.inner = c.into_inner.ensures in
    let later : faults c.args.src ≤ faults c.kept_size_of.new.src = c.in-Ok.ensures.kept.later in
    let earlier : faults c.args.src ≤ faults c.in-Ok-new.cache.inner = rw inner later in
    into_same (Export (target_asked c.args.target))
    (looked (λ (s : Cached g.row.S.Denot g.S.BlockSource). bytes s.inner) (λ (s : Cached g.row.S.Denot g.S.BlockSource). faults s.inner) c.in-Ok-new.cache c.write-ended.new.src)
    (looked bytes faults c.args.src c.into_inner.result) (stored g.F.Folder.contents g.F.Folder.faults c.args.folder.now c.write-ended.new.folder) c.write-ended.result
    (sunk g.W.Sink.contents g.W.Sink.faults c.args.out.now c.write-ended.new.out)
    (ap bytes inner ∙ c.in-Ok.ensures.kept.same_bytes)
    (λ (rose : Rose (faults c.in-Ok-new.cache.inner) (faults c.write-ended.new.src.inner)).
    rose_later (faults c.args.src) (faults c.in-Ok-new.cache.inner) (faults c.into_inner.result) earlier (rw back rose))
    c.write-ended.ensures.answer

pub returns-in-Err-clause-answer : goal.returns-in-Err-clause-answer
returns-in-Err-clause-answer g c =
    let command = Export (target_asked c.args.target) in
    let source = looked g.S.BlockSource.bytes g.S.BlockSource.faults c.args.src c.kept_size_of.new.src in
    unfilled command source (stored g.F.Folder.contents g.F.Folder.faults c.args.folder.now c.args.folder.now) ReadFailed (g.W.Sink.contents c.args.out.now) (g.W.Sink.faults c.args.out.now)
    (kept_store g.F.Folder.contents g.F.Folder.faults c.args.folder.now)
    (read_ended command source (g.W.Sink.contents c.args.out.now) (g.W.Sink.faults c.args.out.now) c.in-Err.ensures.cause)

pub returns-in-Err-new-clause-answer : goal.returns-in-Err-new-clause-answer
returns-in-Err-new-clause-answer g c =
    let command = Export (target_asked c.args.target) in
    let source = looked g.S.BlockSource.bytes g.S.BlockSource.faults c.args.src c.in-Err-new.src in
    unfilled command source (stored g.F.Folder.contents g.F.Folder.faults c.args.folder.now c.args.folder.now) OutOfMemory (g.W.Sink.contents c.args.out.now) (g.W.Sink.faults c.args.out.now)
    (kept_store g.F.Folder.contents g.F.Folder.faults c.args.folder.now)
    (no_memory_ended command source (g.W.Sink.contents c.args.out.now) (g.W.Sink.faults c.args.out.now))
