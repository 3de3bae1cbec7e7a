use Rattle.std.proofs.Common.{◌∙◌, List, ℕ, Ok, refl, ap, sym, subst}
use Rattle.view_rules.specs.Rules.{view_facts}
use Rattle.path_read.specs.Contents.{body_in}
use Rattle.path_read.specs.Needs.{HasExtents, WhereWritten}
use Rattle.path_read.specs.Parts.{body_of}
use Rattle.path_search.specs.Stops.{IsLawful}
use Rattle.path_read.specs.Written.{IsWritten}
use Rattle.path_read.specs.declared.stop.WriteStop.TheVariants.{WriteFault}
use Rattle.path_read.proofs.Parted.{piece_parted, cut_parted, parted_same}
use Rattle.path_read.specs.declared.kept.KeptBody.{KeptBody}
use Rattle.path_read.specs.declared.kept.KeptBody.TheVariants.{Stream}
use Rattle.path_read.proofs.attribute.write_body.Goals as goal

pub returns-in-Stream-clause-exact : goal.returns-in-Stream-clause-exact
returns-in-Stream-clause-exact g c = λ image told lawful.
    subst (λ (b : KeptBody). IsWritten (g.W.Sink.contents c.args.out.now) (g.W.Sink.contents c.write_stream.new.out) (Ok (body_in c.args.site.now.block_size image (view_facts image c.args.site.now c.args.volume.now c.args.view.now) (body_of b))) c.write_stream.result)
    (sym c.in-Stream.is) (c.write_stream.ensures.exact image told lawful)

pub returns-in-Ok-clause-text : goal.returns-in-Ok-clause-text
returns-in-Ok-clause-text g c =
    piece_parted (g.W.Sink.contents c.args.out.now) (g.W.Sink.contents c.put.new.self) (g.S.BlockSource.bytes c.args.src.now)
    (λ (image : List ℕ). IsLawful image c.args.site.now c.args.volume.now c.args.view.now)
    (λ (image : List ℕ). Ok (body_in c.args.site.now.block_size image (view_facts image c.args.site.now c.args.volume.now c.args.view.now) (body_of c.args.body.now))) c.as_slice.result.now
    (λ image. ap (λ (b : KeptBody). Ok (body_in c.args.site.now.block_size image (view_facts image c.args.site.now c.args.volume.now c.args.view.now) (body_of b))) c.in-Embedded.is ∙ ap (λ (l : List ℕ). Ok l) (sym c.as_slice.ensures)) c.in-Ok.ensures.put

pub returns-in-Err-clause-text : goal.returns-in-Err-clause-text
returns-in-Err-clause-text g c =
    cut_parted (g.W.Sink.contents c.args.out.now) (g.W.Sink.contents c.put.new.self) (g.S.BlockSource.bytes c.args.src.now)
    (λ (image : List ℕ). IsLawful image c.args.site.now c.args.volume.now c.args.view.now)
    (λ (image : List ℕ). Ok (body_in c.args.site.now.block_size image (view_facts image c.args.site.now c.args.volume.now c.args.view.now) (body_of c.args.body.now))) c.as_slice.result.now WriteFault
    (λ image. ap (λ (b : KeptBody). Ok (body_in c.args.site.now.block_size image (view_facts image c.args.site.now c.args.volume.now c.args.view.now) (body_of b))) c.in-Embedded.is ∙ ap (λ (l : List ℕ). Ok l) (sym c.as_slice.ensures)) c.in-Err.ensures.part

pub returns-in-Stream-clause-text : goal.returns-in-Stream-clause-text
returns-in-Stream-clause-text g c =
    parted_same (g.W.Sink.contents c.args.out.now) (g.W.Sink.contents c.write_stream.new.out) (g.S.BlockSource.bytes c.args.src.now) (g.S.BlockSource.bytes c.args.src.now)
    (λ (image : List ℕ). IsLawful image c.args.site.now c.args.volume.now c.args.view.now)
    (λ (image : List ℕ). Ok (body_in c.args.site.now.block_size image (view_facts image c.args.site.now c.args.volume.now c.args.view.now) (body_of (Stream c.in-Stream.id c.in-Stream.size))))
    (λ (image : List ℕ). Ok (body_in c.args.site.now.block_size image (view_facts image c.args.site.now c.args.volume.now c.args.view.now) (body_of c.args.body.now))) c.write_stream.result refl
    (λ image told lawful. ap (λ (b : KeptBody). Ok (body_in c.args.site.now.block_size image (view_facts image c.args.site.now c.args.volume.now c.args.view.now) (body_of b))) c.in-Stream.is) c.write_stream.ensures.text

pub returns-in-Ok-clause-rests : goal.returns-in-Ok-clause-rests
returns-in-Ok-clause-rests g c image told ordered =
    subst (λ (b : KeptBody). HasExtents image c.args.site.now c.args.volume.now c.args.view.now (body_of b)) (sym c.in-Embedded.is) tt

pub returns-in-Stream-clause-rests : goal.returns-in-Stream-clause-rests
returns-in-Stream-clause-rests g c image told ordered =
    subst (λ (b : KeptBody). WhereWritten (HasExtents image c.args.site.now c.args.volume.now c.args.view.now (body_of b)) c.write_stream.result)
    (sym c.in-Stream.is) (c.write_stream.ensures.rests image told ordered)
