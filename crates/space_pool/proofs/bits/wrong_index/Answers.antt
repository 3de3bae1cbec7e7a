use Rattle.std.proofs.Common.{◌∙◌, ◌<◌, ℕ, arith, ap, sym, subst, length, true}
use Rattle.std.proofs.lemmas.List.{length-set}
use Rattle.space_map.specs.Fields.{pool_bitmap_blocks_of}
use Rattle.space_pool.proofs.Indexes.{index-passes, marks-more, right-more, wrong-index}
use Rattle.space_pool.proofs.bits.wrong_index.Goals as goal

pub returns-then-not-passes-clause-present : goal.returns-then-not-passes-clause-present
returns-then-not-passes-clause-present c =
    let manager = c.args.manager.now in
    let low : c.loop-i.i < pool_bitmap_blocks_of manager = omega arith in
    wrong-index manager c.loop-i.i low c.requires.inside
    (index-passes manager c.loop-i.marks.items c.loop-i.i c.index.result c.args.ring_blocks c.passes.result c.index.ensures c.requires.ring c.index.type_inv c.loop-i.invariant.marked c.passes.ensures.right ∙ c.if-not-passes.true)

pub loop-i-preserved : goal.loop-i-preserved
loop-i-preserved c =
    let manager = c.args.manager.now in
    let marks = c.loop-i.marks.items in
    let small : c.index.result < length marks = subst (λ (n : ℕ). c.index.result < n) (sym c.loop-i.invariant.long) c.index.type_inv in
    record {
      long = ap length c.passes.ensures.met ∙ (length-set marks c.index.result true ∙ c.loop-i.invariant.long);
      marked = marks-more manager marks c.passes.new.marks.items c.loop-i.i c.index.result c.index.ensures small c.passes.ensures.met c.loop-i.invariant.marked;
      right = right-more manager c.loop-i.i c.loop-i.invariant.right
          (index-passes manager marks c.loop-i.i c.index.result c.args.ring_blocks c.passes.result c.index.ensures c.requires.ring c.index.type_inv c.loop-i.invariant.marked c.passes.ensures.right ∙ c.if-not-passes.false);
    }
