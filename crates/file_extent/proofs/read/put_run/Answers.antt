use Rattle.std.proofs.Common.{◌≡◌, ◌+◌, ◌-◌, ◌*◌, ℕ, length, take, drop, arith, refl, ap, sym, ◌∙◌}
use Rattle.file_extent.proofs.Pieces.{bytes-solid}
use Rattle.file_extent.proofs.Insides.{run-inside, size-some}
use Rattle.file_extent.proofs.read.put_run.Goals as goal

pub overflow_mul-first : goal.overflow_mul-first
overflow_mul-first g c =
    let run = run-inside c.args.site.now c.args.extents.now c.args.i (length c.args.into.now) (g.S.BlockSource.bytes_len c.args.src.now) c.args.extent.now c.requires.site c.requires.laid c.requires.part c.requires.solid in
    omega (arith, run.ends, c.size-size.ensures)

pub overflow_sub-i : goal.overflow_sub-i
overflow_sub-i g c = (run-inside c.args.site.now c.args.extents.now c.args.i (length c.args.into.now) (g.S.BlockSource.bytes_len c.args.src.now) c.args.extent.now c.requires.site c.requires.laid c.requires.part c.requires.solid).from

pub overflow_add-first : goal.overflow_add-first
overflow_add-first g c =
    let run = run-inside c.args.site.now c.args.extents.now c.args.i (length c.args.into.now) (g.S.BlockSource.bytes_len c.args.src.now) c.args.extent.now c.requires.site c.requires.laid c.requires.part c.requires.solid in
    omega (arith, run.ends, c.size-size.ensures)

pub read_at-requires-clause-inside : goal.read_at-requires-clause-inside
read_at-requires-clause-inside g c = (run-inside c.args.site.now c.args.extents.now c.args.i (length c.args.into.now) (g.S.BlockSource.bytes_len c.args.src.now) c.args.extent.now c.requires.site c.requires.laid c.requires.part c.requires.solid).ends

pub returns-in-Ok-clause-found : goal.returns-in-Ok-clause-found
returns-in-Ok-clause-found g c = λ image told.
    let bs = c.args.site.now.block_size in
    let n = length c.args.into.now in
    let at = bs * c.args.extent.now.block + (c.args.i - c.args.extent.now.logical) in
    let run = run-inside c.args.site.now c.args.extents.now c.args.i n (g.S.BlockSource.bytes_len c.args.src.now) c.args.extent.now c.requires.site c.requires.laid c.requires.part c.requires.solid in
    let whole : length image ≡ g.S.BlockSource.bytes_len c.args.src.now = g.met.S.BlockSource.whole c.args.src.now image told in
    let long : length c.read_at.new.into ≡ n = c.read_at.auto.into in
    let wide : (at + length c.read_at.new.into) - at ≡ n = omega (arith, long) in
    c.in-Ok.ensures.found image told
    ∙ ap (λ (w : ℕ). take w (drop at image)) wide
    ∙ sym (bytes-solid bs image c.args.extents.now c.args.i n at n c.args.extent.now (size-some bs c.requires.site.accepted) c.requires.part c.requires.solid run.from (omega arith) refl (omega (arith, run.ends, whole)))
