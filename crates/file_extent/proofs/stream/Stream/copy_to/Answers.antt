use Rattle.std.proofs.Common.{◌≡◌, ◌-◌, ◌∙◌, ℕ, List, arith, ap}
use Rattle.file_extent.specs.Streams.{Opened, bytes_from, stream_bytes}
use Rattle.file_extent.proofs.Pieces.{bytes-more}
use Rattle.file_extent.proofs.Copies.{copied-more, copied-cut, whole-wrote, front-wrote}
use Rattle.file_extent.proofs.stream.Stream.copy_to.Goals as goal

pub returns-in-Err-clause-text : goal.returns-in-Err-clause-text
unfolding stream_bytes
returns-in-Err-clause-text g c =
    let bs = c.args.self.now.site.block_size in
    let es = c.args.self.now.extents in
    let at = c.pieces.at in
    let size = c.args.self.now.size in
    let bound = c.pieces.invariant.bound in
    copied-cut (g.W.Sink.contents c.args.out.now) (g.W.Sink.contents c.pieces.out) (g.W.Sink.contents c.copy_piece.new.out) (g.S.BlockSource.bytes c.args.src.now) (g.S.BlockSource.bytes c.pieces.src)
    (λ (image : List ℕ). bytes_from bs image es 0 at) (λ (image : List ℕ). bytes_from bs image es at (size - at)) (λ (image : List ℕ). bytes_from bs image es 0 size)
    c.pieces.invariant.kept.same_bytes
    (λ image. bytes-more bs image es 0 at (size - at) at size (omega arith) (omega (arith, bound)))
    c.pieces.invariant.put
    c.in-Err.ensures.part

pub pieces-preserved : goal.pieces-preserved
pieces-preserved g c =
    let bs = c.args.self.now.site.block_size in
    let es = c.args.self.now.extents in
    let at = c.pieces.at in
    let next = c.in-Ok.next in
    let before = c.pieces.invariant in
    let after = c.in-Ok.ensures in
    record {
      bound = after.next.1;
      kept = record {
        same_bytes = after.kept.same_bytes ∙ before.kept.same_bytes;
        same_size = after.kept.same_size ∙ before.kept.same_size;
        later = omega (arith, after.kept.later, before.kept.later);
      };
      later = omega (arith, after.later, before.later);
      put =
          copied-more (g.W.Sink.contents c.args.out.now) (g.W.Sink.contents c.pieces.out) (g.W.Sink.contents c.copy_piece.new.out) (g.S.BlockSource.bytes c.args.src.now) (g.S.BlockSource.bytes c.pieces.src)
          (λ (image : List ℕ). bytes_from bs image es 0 at) (λ (image : List ℕ). bytes_from bs image es at (next - at)) (λ (image : List ℕ). bytes_from bs image es 0 next)
          before.kept.same_bytes
          (λ image. bytes-more bs image es 0 at (next - at) at next (omega arith) (omega (arith, after.next)))
          before.put
          after.put;
    }

pub returns-clause-text : goal.returns-clause-text
unfolding stream_bytes
returns-clause-text g c =
    let bs = c.args.self.now.site.block_size in
    let es = c.args.self.now.extents in
    let all : c.pieces.at ≡ c.args.self.now.size = omega (arith, c.pieces.invariant.bound, c.pieces-test.false, ap (λ (o : Opened). o.size) c.self.view_is) in
    let put = c.pieces.invariant.put in
    (put.0, put.1, λ image told. put.2 image told ∙ ap (λ (n : ℕ). bytes_from bs image es 0 n) all)

pub returns-in-Err-clause-part : goal.returns-in-Err-clause-part
unfolding stream_bytes
returns-in-Err-clause-part g c = λ image told.
    front-wrote (g.W.Sink.contents c.args.out.now) (g.W.Sink.contents c.copy_piece.new.out) (g.S.BlockSource.bytes c.args.src.now)
    (λ (image : List ℕ). bytes_from c.args.self.now.site.block_size image c.args.self.now.extents 0 c.args.self.now.size) (returns-in-Err-clause-text g c) image told

pub returns-clause-put : goal.returns-clause-put
unfolding stream_bytes
returns-clause-put g c = λ image told.
    whole-wrote (g.W.Sink.contents c.args.out.now) (g.W.Sink.contents c.pieces.out) (g.S.BlockSource.bytes c.args.src.now)
    (λ (image : List ℕ). bytes_from c.args.self.now.site.block_size image c.args.self.now.extents 0 c.args.self.now.size) (returns-clause-text g c) image told
