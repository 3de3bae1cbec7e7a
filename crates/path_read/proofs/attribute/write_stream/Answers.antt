use Rattle.std.proofs.Common.{◌≡◌, ◌∙◌, ℕ, true, List, Ok, ap, subst}
use Rattle.apfs_model.specs.Sink.{WrotePart}
use Rattle.bt_keys.specs.RecordKey.{file_extent_record}
use Rattle.vol_view.specs.Placed.{has_all_records}
use Rattle.file_extent.specs.Streams.{Opened, stream_bytes}
use Rattle.view_rules.specs.Rules.{view_facts}
use Rattle.path_search.proofs.Known.{unanswered_given}
use Rattle.path_read.specs.Contents.{stream_in}
use Rattle.path_search.specs.Stops.{IsLawful}
use Rattle.obj_base.specs.declared.stop.Stop.TheVariants.{ReadFault}
use Rattle.path_read.specs.declared.stop.WriteStop.TheVariants.{Stopped, WriteFault}
use Rattle.path_read.proofs.Givens.{stopped_written, ok-same, stream_opened, unanswered_written}
use Rattle.path_read.proofs.Parted.{none_parted, whole_parted, front_parted}
use Rattle.path_read.proofs.attribute.write_stream.Goals as goal

pub returns-in-Err-clause-exact : goal.returns-in-Err-clause-exact
returns-in-Err-clause-exact g c = λ image told lawful.
    let whole = stream_in c.args.site.now.block_size image (view_facts image c.args.site.now c.args.volume.now c.args.view.now) c.args.id c.args.size in
    let shows = λ (s : Opened). stream_bytes s.site.block_size image s.extents s.size in
    stopped_written (g.W.Sink.contents c.args.out.now) shows (Ok whole) c.in-Err.stop
    (unanswered_given image c.args.site.now c.args.volume.now c.args.view.now shows (Ok whole) c.in-Err.stop lawful (c.in-Err.ensures.present image told) c.in-Err.ensures.unanswered)

pub returns-in-Ok-copy_to-clause-exact : goal.returns-in-Ok-copy_to-clause-exact
returns-in-Ok-copy_to-clause-exact g c = λ image told lawful.
    let stream : Opened = c.in-Ok.stream in
    let same = stream_opened image c.args.site.now c.args.volume.now c.args.view.now c.args.id c.args.size stream (c.in-Ok.ensures.opened image told lawful.rules.ordered) in
    record {
      text = stream_bytes stream.site.block_size image stream.extents stream.size;
      same = ap (λ (l : List ℕ). Ok l) same;
      put = c.in-Ok-copy_to.ensures.put image (c.in-Ok.ensures.kept.same_bytes ∙ told);
    }

pub returns-in-Err-ReadFault-clause-exact : goal.returns-in-Err-ReadFault-clause-exact
returns-in-Err-ReadFault-clause-exact g c = λ image told lawful text want.
    let stream : Opened = c.in-Ok.stream in
    let whole = stream_in c.args.site.now.block_size image (view_facts image c.args.site.now c.args.volume.now c.args.view.now) c.args.id c.args.size in
    let same = stream_opened image c.args.site.now c.args.volume.now c.args.view.now c.args.id c.args.size stream (c.in-Ok.ensures.opened image told lawful.rules.ordered) in
    subst (λ (l : List ℕ). WrotePart (g.W.Sink.contents c.args.out.now) (g.W.Sink.contents c.copy_to.new.out) l)
    (ok-same (Ok whole) (stream_bytes stream.site.block_size image stream.extents stream.size) text (ap (λ (l : List ℕ). Ok l) same) want)
    (c.in-Err-ReadFault.ensures.part image (c.in-Ok.ensures.kept.same_bytes ∙ told))

pub returns-clause-exact : goal.returns-clause-exact
returns-clause-exact g c = λ image told lawful.
    let stream : Opened = c.in-Ok.stream in
    let same = stream_opened image c.args.site.now c.args.volume.now c.args.view.now c.args.id c.args.size stream (c.in-Ok.ensures.opened image told lawful.rules.ordered) in
    record {
      text = stream_bytes stream.site.block_size image stream.extents stream.size;
      same = ap (λ (l : List ℕ). Ok l) same;
      put = c.in-Err-WriteFault.ensures.part image (c.in-Ok.ensures.kept.same_bytes ∙ told);
    }

pub returns-in-Err-clause-text : goal.returns-in-Err-clause-text
returns-in-Err-clause-text g c =
    none_parted (g.W.Sink.contents c.args.out.now) (g.S.BlockSource.bytes c.args.src.now)
    (λ (image : List ℕ). IsLawful image c.args.site.now c.args.volume.now c.args.view.now)
    (λ (image : List ℕ). Ok (stream_in c.args.site.now.block_size image (view_facts image c.args.site.now c.args.volume.now c.args.view.now) c.args.id c.args.size)) (Stopped c.in-Err.stop)

pub returns-in-Ok-copy_to-clause-text : goal.returns-in-Ok-copy_to-clause-text
returns-in-Ok-copy_to-clause-text g c =
    let stream : Opened = c.in-Ok.stream in
    whole_parted (g.W.Sink.contents c.args.out.now) (g.W.Sink.contents c.copy_to.new.out) (g.S.BlockSource.bytes c.args.src.now) (g.S.BlockSource.bytes c.open_stream.new.src)
    (λ (image : List ℕ). IsLawful image c.args.site.now c.args.volume.now c.args.view.now)
    (λ (image : List ℕ). Ok (stream_in c.args.site.now.block_size image (view_facts image c.args.site.now c.args.volume.now c.args.view.now) c.args.id c.args.size))
    (λ (image : List ℕ). stream_bytes stream.site.block_size image stream.extents stream.size) c.in-Ok.ensures.kept.same_bytes
    (λ image told lawful. ap (λ (l : List ℕ). Ok l) (stream_opened image c.args.site.now c.args.volume.now c.args.view.now c.args.id c.args.size stream (c.in-Ok.ensures.opened image told lawful.rules.ordered))) c.in-Ok-copy_to.ensures.text

pub returns-in-Err-ReadFault-clause-text : goal.returns-in-Err-ReadFault-clause-text
returns-in-Err-ReadFault-clause-text g c =
    let stream : Opened = c.in-Ok.stream in
    front_parted (g.W.Sink.contents c.args.out.now) (g.W.Sink.contents c.copy_to.new.out) (g.S.BlockSource.bytes c.args.src.now) (g.S.BlockSource.bytes c.open_stream.new.src)
    (λ (image : List ℕ). IsLawful image c.args.site.now c.args.volume.now c.args.view.now)
    (λ (image : List ℕ). Ok (stream_in c.args.site.now.block_size image (view_facts image c.args.site.now c.args.volume.now c.args.view.now) c.args.id c.args.size))
    (λ (image : List ℕ). stream_bytes stream.site.block_size image stream.extents stream.size) (Stopped ReadFault) c.in-Ok.ensures.kept.same_bytes
    (λ image told lawful. ap (λ (l : List ℕ). Ok l) (stream_opened image c.args.site.now c.args.volume.now c.args.view.now c.args.id c.args.size stream (c.in-Ok.ensures.opened image told lawful.rules.ordered))) c.in-Err-ReadFault.ensures.text

pub returns-clause-text : goal.returns-clause-text
returns-clause-text g c =
    let stream : Opened = c.in-Ok.stream in
    front_parted (g.W.Sink.contents c.args.out.now) (g.W.Sink.contents c.copy_to.new.out) (g.S.BlockSource.bytes c.args.src.now) (g.S.BlockSource.bytes c.open_stream.new.src)
    (λ (image : List ℕ). IsLawful image c.args.site.now c.args.volume.now c.args.view.now)
    (λ (image : List ℕ). Ok (stream_in c.args.site.now.block_size image (view_facts image c.args.site.now c.args.volume.now c.args.view.now) c.args.id c.args.size))
    (λ (image : List ℕ). stream_bytes stream.site.block_size image stream.extents stream.size) WriteFault c.in-Ok.ensures.kept.same_bytes
    (λ image told lawful. ap (λ (l : List ℕ). Ok l) (stream_opened image c.args.site.now c.args.volume.now c.args.view.now c.args.id c.args.size stream (c.in-Ok.ensures.opened image told lawful.rules.ordered))) c.in-Err-WriteFault.ensures.text

pub returns-in-Err-clause-rests : goal.returns-in-Err-clause-rests
returns-in-Err-clause-rests g c image told ordered =
    unanswered_written (has_all_records image c.args.site.now c.args.volume.now c.args.view.now c.args.id file_extent_record ≡ true) c.in-Err.stop c.in-Err.ensures.unanswered

pub returns-in-Ok-copy_to-clause-rests : goal.returns-in-Ok-copy_to-clause-rests
returns-in-Ok-copy_to-clause-rests g c image told ordered = (c.in-Ok.ensures.opened image told ordered).whole
