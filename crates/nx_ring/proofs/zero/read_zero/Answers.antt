use Rattle.std.proofs.Common.{◌∙◌, ap, sym, arith}
use Rattle.std.proofs.lemmas.Result.{IfOk-weaker}
use Rattle.std.proofs.lemmas.Grind.{common_steps}
use Rattle.apfs_model.specs.Blocks.{block_of}
use Rattle.nx_block.specs.Read.{size_of}
use Rattle.obj_base.specs.BlockSize.{is_accepted}
use Rattle.nx_ring.specs.Reading.{zero_in}
use Rattle.nx_ring.proofs.Zeros.{given, zero_short, zero_unsized, zero_there, zero_first, zero_cut, size_bounds, one_read, two_reads}
use Rattle.nx_ring.proofs.zero.read_zero.Goals as goal

pub returns-then-len-from-clause-found : goal.returns-then-len-from-clause-found
returns-then-len-from-clause-found g c image told = zero_short image (Prim.grind (arith, common_steps, c.if-len-from.true, c.size-len.ensures, g.met.S.BlockSource.whole c.args.src.now image told, c.from.ensures))

pub returns-in_err-first-clause-reads : goal.returns-in_err-first-clause-reads
returns-in_err-first-clause-reads g c image told = Prim.omega (arith, one_read image, c.in_err-first.ensures.reads)

pub returns-in_default-clause-found : goal.returns-in_default-clause-found
returns-in_default-clause-found g c image told = zero_unsized image c.in_ok-first.first.items (c.in_ok-first.ensures.found image told) (sym c.in_default.is ∙ (c.nx_size.ensures ∙ ap size_of c.deref.ensures.value))

pub returns-in_default-clause-reads : goal.returns-in_default-clause-reads
returns-in_default-clause-reads g c image told = Prim.omega (arith, one_read image, c.in_ok-first.ensures.reads)

pub returns-then-size-eq-FIRST-clause-reads : goal.returns-then-size-eq-FIRST-clause-reads
returns-then-size-eq-FIRST-clause-reads g c image told = Prim.omega (arith, one_read image, c.in_ok-first.ensures.reads)

pub returns-then-len-from-2-clause-reads : goal.returns-then-len-from-2-clause-reads
returns-then-len-from-2-clause-reads g c image told = Prim.omega (arith, one_read image, c.in_ok-first.ensures.reads)

pub returns-then-size-eq-FIRST-clause-found : goal.returns-then-size-eq-FIRST-clause-found
returns-then-size-eq-FIRST-clause-found g c image told =
    zero_first image c.in_ok-first.first.items c.in-Some.size (c.in_ok-first.ensures.found image told) (c.in-Some.ensures ∙ ap size_of c.deref.ensures.value)
    (Prim.grind (arith, common_steps, c.if-len-from.false, c.size-len.ensures, g.met.S.BlockSource.whole c.args.src.now image told, c.from.ensures))
    (Prim.grind (arith, common_steps, c.if-size-eq-FIRST.true))

pub returns-then-len-from-2-clause-found : goal.returns-then-len-from-2-clause-found
returns-then-len-from-2-clause-found g c image told =
    zero_cut image c.in_ok-first.first.items c.in-Some.size (c.in_ok-first.ensures.found image told) (c.in-Some.ensures ∙ ap size_of c.deref.ensures.value)
    (Prim.grind (arith, common_steps, c.if-len-from-2.true, c.size-len.ensures, g.met.S.BlockSource.whole c.args.src.now image told, c.from-2.ensures))

pub read_new-requires-2-clause-some : goal.read_new-requires-2-clause-some
read_new-requires-2-clause-some g c = (size_bounds c.deref.result.now c.in-Some.size c.in-Some.ensures).1

pub read_new-requires-2-clause-short : goal.read_new-requires-2-clause-short
read_new-requires-2-clause-short g c = (size_bounds c.deref.result.now c.in-Some.size c.in-Some.ensures).2

pub returns-clause-whole : goal.returns-clause-whole
returns-clause-whole g c =
    IfOk-weaker c.read_new-2.result _ _
    (λ bytes e. ap is_accepted e ∙ (size_bounds c.deref.result.now c.in-Some.size c.in-Some.ensures).0)
    c.read_new-2.ensures.long

pub returns-clause-found : goal.returns-clause-found
returns-clause-found g c image told =
    given (λ bytes. bytes.items) (block_of c.in-Some.size image 0) (zero_in image) c.read_new-2.result
    (zero_there image c.in_ok-first.first.items c.in-Some.size (c.in_ok-first.ensures.found image told) (c.in-Some.ensures ∙ ap size_of c.deref.ensures.value)
    (Prim.grind (arith, common_steps, c.if-len-from.false, c.size-len.ensures, g.met.S.BlockSource.whole c.args.src.now image told, c.from.ensures))
    (Prim.grind (arith, common_steps, c.if-len-from-2.false, c.size-len.ensures, g.met.S.BlockSource.whole c.args.src.now image told, c.from-2.ensures)))
    (c.read_new-2.ensures.found image (c.in_ok-first.ensures.kept.same_bytes ∙ told))
    c.read_new-2.ensures.free

pub returns-clause-reads : goal.returns-clause-reads
returns-clause-reads g c image told =
    let two = two_reads image c.in_ok-first.first.items c.in-Some.size (c.in_ok-first.ensures.found image told) (c.in-Some.ensures ∙ ap size_of c.deref.ensures.value) (Prim.grind (arith, common_steps, c.if-size-eq-FIRST.false)) in
    Prim.omega (arith, two, c.in_ok-first.ensures.reads, c.read_new-2.ensures.reads)
