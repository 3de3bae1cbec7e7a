use Rattle.std.proofs.Common.{◌*◌, List, get_or, ap, sym, ◌∙◌}
use Rattle.obj_base.specs.declared.site.Site.{Site}
use Rattle.space_map.specs.Geometry.{chunk_len}
use Rattle.space_map.specs.Tests.{share}
use Rattle.space_map.specs.declared.chunk.Chunk.{Chunk}
use Rattle.reach_rules.specs.Settled.{is_held}
use Rattle.own_settle.proofs.ChunkLemmas.{chunk-is, bare-agreed, bare-fault}
use Rattle.own_settle.proofs.chunks.settle_chunk.Goals as goal

abbrev nought : Chunk
nought = record { first = 0; blocks = 0; free = 0; bitmap = 0 }

pub returns-then-from-blocks-clause-present : goal.returns-then-from-blocks-clause-present
returns-then-from-blocks-clause-present g c = λ image told known.
    let range = c.chunk_range-first in
    let chunk = get_or c.chunks.result.now c.args.number nought in
    let is = ap (λ (cs : List Chunk). get_or cs c.args.number nought) c.chunks.ensures.all ∙ chunk-is image c.args.space.now known c.args.number nought c.requires.low in
    let counts = range.ensures.blocks ∙ ap (λ (s : Site). share s.blocks (chunk_len s.block_size) c.args.number) c.site.ensures in
    bare-fault image c.args.space.now (is_held c.args.ranges.now) c.args.number chunk range.result.1 is c.if-chunk-ne0.false counts (λ e. c.if-from-blocks.true (c.from.ensures ∙ e))

pub returns-clause-clear : goal.returns-clause-clear
returns-clause-clear g c = λ image told known.
    let range = c.chunk_range-first in
    let chunk = get_or c.chunks.result.now c.args.number nought in
    let is = ap (λ (cs : List Chunk). get_or cs c.args.number nought) c.chunks.ensures.all ∙ chunk-is image c.args.space.now known c.args.number nought c.requires.low in
    let begins = range.ensures.first ∙ ap (λ (s : Site). c.args.number * chunk_len s.block_size) c.site.ensures in
    let counts = range.ensures.blocks ∙ ap (λ (s : Site). share s.blocks (chunk_len s.block_size) c.args.number) c.site.ensures in
    bare-agreed image c.args.space.now (is_held c.args.ranges.now) c.args.number chunk range.result.0 range.result.1 is c.if-chunk-ne0.false begins counts c.if-not-begin_from.ensures (sym c.from.ensures ∙ c.if-from-blocks.false)
