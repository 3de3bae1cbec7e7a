use Rattle.std.proofs.Common.{◌≡◌, ℕ, ◌+◌, ◌*◌, ◌<◌, List, get_or, ap, ap₂, ◌∙◌, arith}
use Rattle.apfs_model.specs.Blocks.{is_in}
use Rattle.obj_base.specs.declared.site.Site.{Site}
use Rattle.space_map.specs.Geometry.{chunk_len}
use Rattle.space_map.specs.Tests.{share}
use Rattle.space_map.specs.declared.chunk.Chunk.{Chunk}
use Rattle.own_ledger.specs.Held.{holds}
use Rattle.own_ledger.proofs.MarkLemmas.{in-from}
use Rattle.reach_rules.specs.Settled.{is_held}
use Rattle.own_settle.proofs.ChunkLemmas.{IsReadOf, accepted-size, chunk-is, chunk-agreed, chunk-fault}
use Rattle.own_settle.proofs.chunks.settle_marked.Goals as goal

abbrev nought : Chunk
nought = record { first = 0; blocks = 0; free = 0; bitmap = 0 }

pub restart-requires : goal.restart-requires
restart-requires g c =
    let size = accepted-size c.args.space.now.site.block_size c.requires.site.accepted in
    let most = size.most in
    let same : c.site-site.result.blocks ≡ c.args.space.now.site.blocks = ap (λ (s : Site). s.blocks) c.site-site.ensures in
    let inside = c.chunk_range-first.ensures.inside in
    let few = c.requires.few in
    let blocks = c.requires.blocks in
    omega arith

pub overflow_add-first : goal.overflow_add-first
overflow_add-first g c =
    let size = accepted-size c.args.space.now.site.block_size c.requires.site.accepted in
    let most = size.most in
    let same : c.site-site.result.blocks ≡ c.args.space.now.site.blocks = ap (λ (s : Site). s.blocks) c.site-site.ensures in
    let unit : c.site-site.result.block_size ≡ c.args.space.now.site.block_size = ap (λ (s : Site). s.block_size) c.site-site.ensures in
    let inside = c.chunk_range-first.ensures.inside in
    let few = c.requires.few in
    let from = c.from.ensures in
    omega arith

pub returns-in-Ok-clause-clear : goal.returns-in-Ok-clause-clear
returns-in-Ok-clause-clear g c = λ image told known.
    let range = c.chunk_range-first in
    let first : ℕ = range.result.0 in
    let unit : c.site-site.result.block_size ≡ c.args.space.now.site.block_size = ap (λ (s : Site). s.block_size) c.site-site.ensures in
    let counts = range.ensures.blocks in
    let blocks = c.requires.blocks in
    let read : IsReadOf image c.args.space.now c.args.number c.bitmap.new.into range.result.0 range.result.1 (get_or c.chunks.result.now c.args.number nought).free = record {
      bits_are = c.in_ok-bitmap.ensures.found image told known;
      first_is = range.ensures.first ∙ ap (λ (s : Site). c.args.number * chunk_len s.block_size) c.site-site.ensures;
      blocks_are = range.ensures.blocks ∙ ap (λ (s : Site). share s.blocks (chunk_len s.block_size) c.args.number) c.site-site.ensures;
      free_is = ap (λ (cs : List Chunk). (get_or cs c.args.number nought).free) c.chunks.ensures.all ∙ ap (λ (x : Chunk). x.free) (chunk-is image c.args.space.now known c.args.number nought c.requires.low);
    } in
    let kept = λ (place : ℕ) (low : place < range.result.1). c.fill-done.ensures.held (first + place)
    (ap₂ (λ a b. is_in (first + place) a b) c.restart.ensures.first_is c.restart.ensures.blocks_is ∙ in-from (first + place) first c.args.ledger.now.blocks (omega arith) (omega arith)) in
    chunk-agreed image c.args.space.now (holds c.fill-done.new.ledger) (is_held c.args.ranges.now) c.args.number c.bitmap.new.into range.result.0 range.result.1 (get_or c.chunks.result.now c.args.number nought).free read kept c.in-Ok.ensures.clear

pub returns-in-Err-clause-present : goal.returns-in-Err-clause-present
returns-in-Err-clause-present g c = λ image told known.
    let range = c.chunk_range-first in
    let first : ℕ = range.result.0 in
    let unit : c.site-site.result.block_size ≡ c.args.space.now.site.block_size = ap (λ (s : Site). s.block_size) c.site-site.ensures in
    let counts = range.ensures.blocks in
    let blocks = c.requires.blocks in
    let read : IsReadOf image c.args.space.now c.args.number c.bitmap.new.into range.result.0 range.result.1 (get_or c.chunks.result.now c.args.number nought).free = record {
      bits_are = c.in_ok-bitmap.ensures.found image told known;
      first_is = range.ensures.first ∙ ap (λ (s : Site). c.args.number * chunk_len s.block_size) c.site-site.ensures;
      blocks_are = range.ensures.blocks ∙ ap (λ (s : Site). share s.blocks (chunk_len s.block_size) c.args.number) c.site-site.ensures;
      free_is = ap (λ (cs : List Chunk). (get_or cs c.args.number nought).free) c.chunks.ensures.all ∙ ap (λ (x : Chunk). x.free) (chunk-is image c.args.space.now known c.args.number nought c.requires.low);
    } in
    let kept = λ (place : ℕ) (low : place < range.result.1). c.fill-done.ensures.held (first + place)
    (ap₂ (λ a b. is_in (first + place) a b) c.restart.ensures.first_is c.restart.ensures.blocks_is ∙ in-from (first + place) first c.args.ledger.now.blocks (omega arith) (omega arith)) in
    chunk-fault image c.args.space.now (holds c.fill-done.new.ledger) (is_held c.args.ranges.now) c.args.number c.bitmap.new.into range.result.0 range.result.1 (get_or c.chunks.result.now c.args.number nought).free c.in-Err.fault read kept c.in-Err.ensures.present
