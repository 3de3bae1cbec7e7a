-- What is read of the source from the place after the part's start is read of the part.
use Rattle.std.proofs.Common.{◌≡◌, length}
use Rattle.img_gpt.specs.Whole.{sliced_of}
use Rattle.img_gpt.proofs.Sliced.{sliced_copies}
use Rattle.img_gpt.proofs.slice.SliceBlockSource.read_at.Goals as goal

pub returns-in-Ok-clause-found : goal.returns-in-Ok-clause-found
returns-in-Ok-clause-found g c image e =
    let of = sliced_of c.args.self.now.start c.args.self.now.length (g.S.BlockSource.bytes c.args.self.now.inner) image e in
    let same : length c.read_at.new.into ≡ length c.args.into.now = c.read_at.auto.into in
    sliced_copies c.args.self.now.start c.args.self.now.length c.args.at of.0 image c.read_at.new.into of.2 (rw same c.requires.inside) (c.in-Ok.ensures.found of.0 of.1)
