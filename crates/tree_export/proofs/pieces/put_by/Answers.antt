use Rattle.std.proofs.Common.{◌≡◌, ◌-◌, ◌∙◌, ℕ, List, refl, arith, ap}
use Rattle.file_extent.specs.Streams.{bytes_from, stream_bytes}
use Rattle.file_extent.proofs.Pieces.{bytes-more}
use Rattle.tree_export.proofs.Appends.{pieces_more, pieces_cut, none_whole}
use Rattle.tree_export.proofs.pieces.put_by.Goals as goal

pub returns-in-Err-clause-text : goal.returns-in-Err-clause-text
unfolding stream_bytes
returns-in-Err-clause-text g c =
    let bs = c.args.stream.now.site.block_size in
    let es = c.args.stream.now.extents in
    let at = c.pieces.at in
    let size = c.args.stream.now.size in
    let bound = c.pieces.invariant.bound in
    pieces_cut (g.F.Folder.contents c.args.folder.now) (g.F.Folder.contents c.pieces.folder) (g.F.Folder.contents c.put_piece.new.folder) (g.S.BlockSource.bytes c.args.src.now) (g.S.BlockSource.bytes c.pieces.src)
    (λ (image : List ℕ). bytes_from bs image es 0 at) (λ (image : List ℕ). bytes_from bs image es at (size - at)) (λ (image : List ℕ). bytes_from bs image es 0 size)
    c.pieces.invariant.kept.same_bytes
    (λ image. bytes-more bs image es 0 at (size - at) at size (omega arith) (omega (arith, bound)))
    c.pieces.invariant.put
    c.in-Err.ensures.part

pub pieces-preserved : goal.pieces-preserved
pieces-preserved g c =
    let bs = c.args.stream.now.site.block_size in
    let es = c.args.stream.now.extents in
    let at = c.pieces.at in
    let next = c.in-Ok.next in
    let before = c.pieces.invariant in
    let after = c.in-Ok.ensures in
    record {
      bound = after.next.1;
      room = omega (arith, before.room, c.put_piece.auto.piece);
      writes = after.writes;
      kept = record {
        same_bytes = after.kept.same_bytes ∙ before.kept.same_bytes;
        same_size = after.kept.same_size ∙ before.kept.same_size;
        later = omega (arith, after.kept.later, before.kept.later);
      };
      later = omega (arith, after.later, before.later);
      put =
          pieces_more (g.F.Folder.contents c.args.folder.now) (g.F.Folder.contents c.pieces.folder) (g.F.Folder.contents c.put_piece.new.folder) (g.S.BlockSource.bytes c.args.src.now) (g.S.BlockSource.bytes c.pieces.src)
          (λ (image : List ℕ). bytes_from bs image es 0 at) (λ (image : List ℕ). bytes_from bs image es at (next - at)) (λ (image : List ℕ). bytes_from bs image es 0 next)
          before.kept.same_bytes
          (λ image. bytes-more bs image es 0 at (next - at) at next (omega arith) (omega (arith, after.next)))
          before.put
          after.put;
    }

pub returns-clause-text : goal.returns-clause-text
unfolding stream_bytes
returns-clause-text g c =
    let bs = c.args.stream.now.site.block_size in
    let es = c.args.stream.now.extents in
    let all : c.pieces.at ≡ c.args.stream.now.size = omega (arith, c.pieces.invariant.bound, c.pieces-test.false, c.size.ensures) in
    let put = c.pieces.invariant.put in
    (put.0, put.1, λ image told. put.2 image told ∙ ap (λ (n : ℕ). bytes_from bs image es 0 n) all)

pub pieces-init : goal.pieces-init
pieces-init g c = record {
  bound = omega arith;
  room = c.requires.room;
  writes = c.requires.writing;
  kept = record { same_bytes = refl; same_size = refl; later = omega arith };
  later = omega arith;
  put = none_whole (g.F.Folder.contents c.args.folder.now) (g.S.BlockSource.bytes c.args.src.now) (λ (image : List ℕ). bytes_from c.args.stream.now.site.block_size image c.args.stream.now.extents 0 0) (λ image. refl);
}
