use Rattle.std.proofs.Common.{◌≡◌, ◌∙◌, true, false, ap, sym, subst, replicate, OnOk, slice_index_or}
use Rattle.apfs_model.proofs.BoolTests.{from-equal}
use Rattle.apfs_model.specs.Blocks.{block_of}
use Rattle.space_map.specs.Marks.{lacks_bitmap}
use Rattle.space_map.specs.Held.{bitmap_of}
use Rattle.space_map.specs.Stops.{Known}
use Rattle.space_map.proofs.Loads.{chunk-is, bits-none, bits-some, unequal}
use Rattle.space_map.proofs.space.Space.bitmap.Goals as goal

pub returns-then-bitmap-eq0-clause-found : goal.returns-then-bitmap-eq0-clause-found
returns-then-bitmap-eq0-clause-found g c image told known =
    let space = c.args.self.now in
    let size = space.site.block_size in
    let here = c.index.result.now in
    let same = chunk-is image space c.args.chunk here known c.requires.low (c.index.ensures ∙ ap (λ (x : Known). slice_index_or x.chunks c.args.chunk here) c.self.view_is) in
    let none : lacks_bitmap here ≡ true = from-equal here.bitmap 0 c.if-bitmap-eq0.true in
    c.fill.ensures.after (λ y e. e) ∙ (ap (λ n. replicate n 0) c.requires.one_block ∙ (sym (bits-none size image here none) ∙ ap (bitmap_of size image) same))

pub returns-clause-found : goal.returns-clause-found
returns-clause-found g c image told known =
    let space = c.args.self.now in
    let size = space.site.block_size in
    let here = c.index.result.now in
    let same = chunk-is image space c.args.chunk here known c.requires.low (c.index.ensures ∙ ap (λ (x : Known). slice_index_or x.chunks c.args.chunk here) c.self.view_is) in
    let some : lacks_bitmap here ≡ false = unequal here.bitmap c.if-bitmap-eq0.false in
    let bits = ap (λ n. block_of n image here.bitmap) c.requires.one_block ∙ (sym (bits-some size image here some) ∙ ap (bitmap_of size image) same) in
    subst (λ xs. OnOk c.read_block.result (c.read_block.new.into ≡ xs)) bits (c.read_block.ensures.found image told)
