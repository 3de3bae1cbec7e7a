use Rattle.std.proofs.Common.{◌≡◌, ℕ, List, Option, Some, Ok, ap, ◌∙◌, subst}
use Rattle.apfs_model.specs.Sink.{WrotePart}
use Rattle.file_extent.specs.Streams.{Opened}
use Rattle.view_rules.specs.Rules.{view_facts}
use Rattle.path_read.specs.Contents.{contents}
use Rattle.path_read.specs.Written.{opened_bytes}
use Rattle.path_search.specs.Stops.{IsLawful}
use Rattle.path_read.proofs.Givens.{stopped_written, ok-same, told_written}
use Rattle.path_read.proofs.Parted.{none_parted, empty_parted, whole_parted, front_parted}
use Rattle.path_read.specs.declared.stop.WriteStop.TheVariants.{Stopped, WriteFault}
use Rattle.obj_base.specs.declared.stop.Stop.TheVariants.{ReadFault}
use Rattle.path_read.specs.Needs.{ContentsNeed}
use Rattle.path_read.proofs.contents.cat.Goals as goal

pub returns-in-Err-clause-exact : goal.returns-in-Err-clause-exact
returns-in-Err-clause-exact g c = λ image told lawful.
    stopped_written (g.W.Sink.contents c.args.out.now) (opened_bytes image) (contents c.args.site.now.block_size image (view_facts image c.args.site.now c.args.volume.now c.args.view.now) c.args.path.now) c.in-Err.stop (c.in-Err.ensures.exact image told lawful)

pub returns-in-Err-ReadFault-clause-exact : goal.returns-in-Err-ReadFault-clause-exact
returns-in-Err-ReadFault-clause-exact g c = λ image told lawful text want.
    let whole = contents c.args.site.now.block_size image (view_facts image c.args.site.now c.args.volume.now c.args.view.now) c.args.path.now in
    let given : whole ≡ Ok (opened_bytes image (Some c.in-Ok-Some.stream)) = c.in-Ok-Some.ensures.exact image told lawful ∙ ap (λ (o : Option Opened). Ok (opened_bytes image o)) c.in-Ok-Some.field-0-is in
    subst (λ (l : List ℕ). WrotePart (g.W.Sink.contents c.args.out.now) (g.W.Sink.contents c.copy_to.new.out) l) (ok-same whole (opened_bytes image (Some c.in-Ok-Some.stream)) text given want)
    (c.in-Err-ReadFault.ensures.part image (c.in-Ok-Some.ensures.kept.same_bytes ∙ told))

pub returns-clause-exact : goal.returns-clause-exact
returns-clause-exact g c = λ image told lawful.
    let whole = contents c.args.site.now.block_size image (view_facts image c.args.site.now c.args.volume.now c.args.view.now) c.args.path.now in
    let given : whole ≡ Ok (opened_bytes image (Some c.in-Ok-Some.stream)) = c.in-Ok-Some.ensures.exact image told lawful ∙ ap (λ (o : Option Opened). Ok (opened_bytes image o)) c.in-Ok-Some.field-0-is in
    record {
      text = opened_bytes image (Some c.in-Ok-Some.stream);
      same = given;
      put = c.in-Err-WriteFault.ensures.part image (c.in-Ok-Some.ensures.kept.same_bytes ∙ told);
    }

pub returns-in-Err-clause-text : goal.returns-in-Err-clause-text
returns-in-Err-clause-text g c =
    none_parted (g.W.Sink.contents c.args.out.now) (g.S.BlockSource.bytes c.args.src.now)
    (λ (image : List ℕ). IsLawful image c.args.site.now c.args.volume.now c.args.view.now)
    (λ (image : List ℕ). contents c.args.site.now.block_size image (view_facts image c.args.site.now c.args.volume.now c.args.view.now) c.args.path.now) (Stopped c.in-Err.stop)

pub returns-in-Ok-None-clause-text : goal.returns-in-Ok-None-clause-text
returns-in-Ok-None-clause-text g c =
    empty_parted (g.W.Sink.contents c.args.out.now) (g.S.BlockSource.bytes c.args.src.now)
    (λ (image : List ℕ). IsLawful image c.args.site.now c.args.volume.now c.args.view.now)
    (λ (image : List ℕ). contents c.args.site.now.block_size image (view_facts image c.args.site.now c.args.volume.now c.args.view.now) c.args.path.now)
    (λ image told lawful. c.in-Ok-None.ensures.exact image told lawful ∙ ap (λ (o : Option Opened). Ok (opened_bytes image o)) c.in-Ok-None.field-0-is)

pub returns-in-Ok-clause-text : goal.returns-in-Ok-clause-text
returns-in-Ok-clause-text g c =
    whole_parted (g.W.Sink.contents c.args.out.now) (g.W.Sink.contents c.copy_to.new.out) (g.S.BlockSource.bytes c.args.src.now) (g.S.BlockSource.bytes c.open.new.src)
    (λ (image : List ℕ). IsLawful image c.args.site.now c.args.volume.now c.args.view.now)
    (λ (image : List ℕ). contents c.args.site.now.block_size image (view_facts image c.args.site.now c.args.volume.now c.args.view.now) c.args.path.now)
    (λ (image : List ℕ). opened_bytes image (Some c.in-Ok-Some.stream)) c.in-Ok-Some.ensures.kept.same_bytes
    (λ image told lawful. c.in-Ok-Some.ensures.exact image told lawful ∙ ap (λ (o : Option Opened). Ok (opened_bytes image o)) c.in-Ok-Some.field-0-is) c.in-Ok.ensures.text

pub returns-in-Err-ReadFault-clause-text : goal.returns-in-Err-ReadFault-clause-text
returns-in-Err-ReadFault-clause-text g c =
    front_parted (g.W.Sink.contents c.args.out.now) (g.W.Sink.contents c.copy_to.new.out) (g.S.BlockSource.bytes c.args.src.now) (g.S.BlockSource.bytes c.open.new.src)
    (λ (image : List ℕ). IsLawful image c.args.site.now c.args.volume.now c.args.view.now)
    (λ (image : List ℕ). contents c.args.site.now.block_size image (view_facts image c.args.site.now c.args.volume.now c.args.view.now) c.args.path.now)
    (λ (image : List ℕ). opened_bytes image (Some c.in-Ok-Some.stream)) (Stopped ReadFault) c.in-Ok-Some.ensures.kept.same_bytes
    (λ image told lawful. c.in-Ok-Some.ensures.exact image told lawful ∙ ap (λ (o : Option Opened). Ok (opened_bytes image o)) c.in-Ok-Some.field-0-is) c.in-Err-ReadFault.ensures.text

pub returns-clause-text : goal.returns-clause-text
returns-clause-text g c =
    front_parted (g.W.Sink.contents c.args.out.now) (g.W.Sink.contents c.copy_to.new.out) (g.S.BlockSource.bytes c.args.src.now) (g.S.BlockSource.bytes c.open.new.src)
    (λ (image : List ℕ). IsLawful image c.args.site.now c.args.volume.now c.args.view.now)
    (λ (image : List ℕ). contents c.args.site.now.block_size image (view_facts image c.args.site.now c.args.volume.now c.args.view.now) c.args.path.now)
    (λ (image : List ℕ). opened_bytes image (Some c.in-Ok-Some.stream)) WriteFault c.in-Ok-Some.ensures.kept.same_bytes
    (λ image told lawful. c.in-Ok-Some.ensures.exact image told lawful ∙ ap (λ (o : Option Opened). Ok (opened_bytes image o)) c.in-Ok-Some.field-0-is) c.in-Err-WriteFault.ensures.text

pub returns-in-Err-clause-rests : goal.returns-in-Err-clause-rests
returns-in-Err-clause-rests g c image told ordered = told_written (Option Opened) (ContentsNeed image c.args.site.now c.args.volume.now c.args.view.now c.args.path.now) c.in-Err.stop (c.in-Err.ensures.needs image told ordered)
