use Rattle.std.proofs.Common.{◌≡◌, ◌∙◌, ◌≤◌, ◌<◌, ◌/◌, ◌%◌, Bool, refl, ap, sym, subst, arith, length, IfOk, slice_index_or}
use Rattle.apfs_model.proofs.BoolTests.{from-equal}
use Rattle.apfs_model.specs.Bytes.{bit_at}
use Rattle.apfs_model.specs.Blocks.{block_of}
use Rattle.blk_read.proofs.Sizes.{accepted_size}
use Rattle.space_map.specs.Geometry.{chunk_len}
use Rattle.space_map.specs.Stops.{Known}
use Rattle.space_map.specs.Held.{IsHeld}
use Rattle.space_map.proofs.Loads.{chunk-is, chunk-there, mark-none, mark-some, unequal}
use Rattle.space_map.proofs.space.Space.marked.Goals as goal

pub returns-then-bitmap-eq0-clause-found : goal.returns-then-bitmap-eq0-clause-found
returns-then-bitmap-eq0-clause-found g c image told known =
    let space = c.args.self.now in
    let size = space.site.block_size in
    let here = c.index.result.now in
    let len : c.chunk_len-len.result ≡ chunk_len size = c.chunk_len-len.ensures ∙ ap (λ (x : Known). chunk_len x.site.block_size) c.self.view_is in
    let k = c.args.block / c.chunk_len-len.result in
    let at : k ≡ c.args.block / chunk_len size = ap (λ n. c.args.block / n) len in
    let held : IsHeld space.site space.manager space.chunks = subst (λ (x : Known). IsHeld x.site x.manager x.chunks) c.self.view_is c.self.invariant in
    let big : 4096 ≤ size = (accepted_size size c.requires.site.accepted).0 in
    let low = chunk-there space c.args.block held (omega (arith, big)) c.requires.inside in
    let same = chunk-is image space k here known (subst (λ n. n < length space.chunks) (sym at) low) (c.index.ensures ∙ ap (λ (x : Known). slice_index_or x.chunks k here) c.self.view_is) in
    sym (mark-none size image space.manager c.args.block k (c.args.block % chunk_len size) here at refl same (from-equal here.bitmap 0 c.if-bitmap-eq0.true))

pub returns-clause-found : goal.returns-clause-found
returns-clause-found g c image told known =
    let space = c.args.self.now in
    let size = space.site.block_size in
    let here = c.index.result.now in
    let len : c.chunk_len-len.result ≡ chunk_len size = c.chunk_len-len.ensures ∙ ap (λ (x : Known). chunk_len x.site.block_size) c.self.view_is in
    let k = c.args.block / c.chunk_len-len.result in
    let at : k ≡ c.args.block / chunk_len size = ap (λ n. c.args.block / n) len in
    let held : IsHeld space.site space.manager space.chunks = subst (λ (x : Known). IsHeld x.site x.manager x.chunks) c.self.view_is c.self.invariant in
    let big : 4096 ≤ size = (accepted_size size c.requires.site.accepted).0 in
    let low = chunk-there space c.args.block held (omega (arith, big)) c.requires.inside in
    let same = chunk-is image space k here known (subst (λ n. n < length space.chunks) (sym at) low) (c.index.ensures ∙ ap (λ (x : Known). slice_index_or x.chunks k here) c.self.view_is) in
    let mark = mark-some size image space.manager c.args.block k (c.args.block % c.chunk_len-len.result) here at (ap (λ n. c.args.block % n) len) same (unequal here.bitmap c.if-bitmap-eq0.false) in
    let sizes : c.self.inside.site.block_size ≡ size = ap (λ (x : Known). x.site.block_size) c.self.view_is in
    subst (λ (b : Bool). IfOk c.read_bit.result (λ marked. marked ≡ b)) (ap (λ n. bit_at (block_of n image here.bitmap) (c.args.block % c.chunk_len-len.result)) sizes ∙ sym mark) (c.read_bit.ensures.found image told)
