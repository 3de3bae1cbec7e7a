use Rattle.std.proofs.Common.{◌≡◌, ◌+◌, ◌-◌, ◌≤◌, ◌∙◌, ◌++◌, ℕ, List, take, arith, refl, sym, ap}
use Rattle.file_extent.specs.Streams.{bytes_from}
use Rattle.file_extent.proofs.Pieces.{bytes-more}
use Rattle.tree_export.proofs.Appends.{none_after, piece_put, piece_cut}
use Rattle.tree_export.proofs.pieces.put_piece.Goals as goal

pub returns-in_err-n-clause-part : goal.returns-in_err-n-clause-part
returns-in_err-n-clause-part g c =
    none_after c.from_residual.result (g.F.Folder.contents c.args.folder.now) (g.S.BlockSource.bytes c.args.src.now)
    (λ (image : List ℕ). bytes_from c.args.stream.now.site.block_size image c.args.stream.now.extents c.args.at (c.args.stream.now.size - c.args.at))

pub returns-in-Ok-clause-put : goal.returns-in-Ok-clause-put
returns-in-Ok-clause-put g c =
    let bs = c.args.stream.now.site.block_size in
    let es = c.args.stream.now.extents in
    let at = c.args.at in
    let n = c.in_ok-n.n in
    let len : n ≡ (at + n) - at = omega arith in
    piece_put (g.F.Folder.contents c.args.folder.now) (g.F.Folder.contents c.append.new.self) (g.S.BlockSource.bytes c.args.src.now)
    (λ (image : List ℕ). bytes_from bs image es at ((at + n) - at)) (take n c.read_into.new.into) c.in-Ok.ensures.appended
    (λ image told. c.in_ok-n.ensures.found image told ∙ ap (λ (m : ℕ). bytes_from bs image es at m) len)

pub returns-in-Err-clause-part : goal.returns-in-Err-clause-part
returns-in-Err-clause-part g c =
    let bs = c.args.stream.now.site.block_size in
    let es = c.args.stream.now.extents in
    let at = c.args.at in
    let n = c.in_ok-n.n in
    let size = c.args.stream.now.size in
    let few : n ≤ size - at = omega (arith, c.in_ok-n.ensures.count) in
    piece_cut (g.F.Folder.contents c.args.folder.now) (g.F.Folder.contents c.append.new.self) (g.S.BlockSource.bytes c.args.src.now)
    (λ (image : List ℕ). bytes_from bs image es at (size - at)) (take n c.read_into.new.into) c.in-Err.ensures.part
    (λ image told. (
      bytes_from bs image es (at + n) ((size - at) - n),
      sym (bytes-more bs image es at n ((size - at) - n) (at + n) (size - at) refl (omega (arith, few))) ∙ ap (λ (l : List ℕ). l ++ bytes_from bs image es (at + n) ((size - at) - n)) (sym (c.in_ok-n.ensures.found image told)),
    ))
