use Rattle.std.proofs.Common.{◌≡◌, ◌+◌, ◌-◌, ◌≤◌, ◌∙◌, ◌++◌, ℕ, List, take, arith, refl, sym, ap}
use Rattle.file_extent.specs.Streams.{bytes_from}
use Rattle.file_extent.proofs.Pieces.{bytes-more}
use Rattle.file_extent.proofs.Copies.{none-after, piece-put, piece-cut}
use Rattle.file_extent.proofs.stream.Stream.copy_piece.Goals as goal

pub returns-in_err-n-clause-part : goal.returns-in_err-n-clause-part
returns-in_err-n-clause-part g c =
    none-after c.from_residual.result (g.W.Sink.contents c.args.out.now) (g.S.BlockSource.bytes c.args.src.now)
    (λ (image : List ℕ). bytes_from c.args.self.now.site.block_size image c.args.self.now.extents c.args.at (c.args.self.now.size - c.args.at))

pub returns-in-Ok-clause-put : goal.returns-in-Ok-clause-put
returns-in-Ok-clause-put g c =
    let bs = c.args.self.now.site.block_size in
    let es = c.args.self.now.extents in
    let at = c.args.at in
    let n = c.in_ok-n.n in
    let len : n ≡ (at + n) - at = omega arith in
    piece-put (g.W.Sink.contents c.args.out.now) (g.W.Sink.contents c.put.new.self) (g.S.BlockSource.bytes c.args.src.now)
    (λ (image : List ℕ). bytes_from bs image es at ((at + n) - at)) (take n c.read_into.new.into) c.in-Ok.ensures.put
    (λ image told. c.in_ok-n.ensures.found image told ∙ ap (λ (m : ℕ). bytes_from bs image es at m) len)

pub returns-in-Err-clause-part : goal.returns-in-Err-clause-part
returns-in-Err-clause-part g c =
    let bs = c.args.self.now.site.block_size in
    let es = c.args.self.now.extents in
    let at = c.args.at in
    let n = c.in_ok-n.n in
    let size = c.args.self.now.size in
    let few : n ≤ size - at = omega (arith, c.in_ok-n.ensures.count) in
    piece-cut (g.W.Sink.contents c.args.out.now) (g.W.Sink.contents c.put.new.self) (g.S.BlockSource.bytes c.args.src.now)
    (λ (image : List ℕ). bytes_from bs image es at (size - at)) (take n c.read_into.new.into) c.in-Err.ensures.part
    (λ image told. (
      bytes_from bs image es (at + n) ((size - at) - n),
      sym (bytes-more bs image es at n ((size - at) - n) (at + n) (size - at) refl (omega (arith, few))) ∙ ap (λ (l : List ℕ). l ++ bytes_from bs image es (at + n) ((size - at) - n)) (sym (c.in_ok-n.ensures.found image told)),
    ))
