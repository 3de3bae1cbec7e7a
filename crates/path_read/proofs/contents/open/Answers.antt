use Rattle.std.proofs.Common.{◌≡◌, ℕ, List, Option, Ok, Err, ap, sym, ◌∙◌, subst}
use Rattle.fs_record.specs.Inodes.{Inode}
use Rattle.file_extent.specs.Streams.{Opened, stream_bytes}
use Rattle.vol_view.specs.Views.{view_flat}
use Rattle.view_rules.specs.Facts.{Facts}
use Rattle.view_rules.specs.Rules.{view_facts}
use Rattle.path_search.specs.Places.{Place}
use Rattle.path_search.specs.Found.{found}
use Rattle.path_read.specs.Contents.{stream_in, contents, readable}
use Rattle.path_read.specs.Written.{opened_bytes}
use Rattle.path_read.proofs.Laws.{same_stream}
use Rattle.path_search.proofs.Known.{given_on, unanswered_given}
use Rattle.path_read.proofs.Givens.{contents_lost, contents_stream, open_none, open_refused, open_whole}
use Rattle.path_search.specs.Needs.{HasEntriesOf, PathNeeds}
use Rattle.path_read.specs.Needs.{ContentsNeed}
use Rattle.path_search.proofs.Needed.{rests_told, untold}
use Rattle.path_search.proofs.Laws.{ok-err}
use Rattle.path_read.proofs.contents.open.Goals as goal

pub returns-in-Err-clause-exact : goal.returns-in-Err-clause-exact
returns-in-Err-clause-exact g c = λ image told lawful.
    let facts : Facts = view_facts image c.args.site.now c.args.volume.now c.args.view.now in
    given_on (λ (p : Place). p) (found facts c.args.path.now) (opened_bytes image) (contents c.args.site.now.block_size image facts c.args.path.now) c.in-Err.stop
    (λ a e. contents_lost c.args.site.now.block_size image facts c.args.path.now a e) (c.in-Err.ensures.exact image told lawful)

pub returns-in-Ok-open_stream-clause-exact : goal.returns-in-Ok-open_stream-clause-exact
returns-in-Ok-open_stream-clause-exact g c = λ image told lawful.
    let facts : Facts = view_facts image c.args.site.now c.args.volume.now c.args.view.now in
    let bs = c.args.site.now.block_size in
    let flat = view_flat image c.args.site.now c.args.volume.now c.args.view.now in
    let size = c.in-Some-stream.stream.size in
    let place : Place = c.in-Ok.place in
    let inode : Inode = c.inode-inode.result.now in
    let is : inode ≡ place.inode = c.inode-inode.ensures in
    let there : found facts c.args.path.now ≡ Ok place = c.in-Ok.ensures.exact image told lawful in
    let opened = c.in-Ok-open_stream.ensures.opened image (c.in-Ok.ensures.kept.same_bytes ∙ told) lawful.rules.ordered in
    contents_stream bs image facts c.args.path.now place c.in-Some-stream.stream there (subst (λ (i : Inode). readable i ≡ Ok i) is c.in-None.ensures) (ap (λ (i : Inode). i.stream) (sym is) ∙ sym c.in-Some-stream.ensures)
    ∙ ap (λ (n : ℕ). Ok (stream_in bs image facts n size)) (sym (c.private_id.ensures ∙ ap (λ (i : Inode). i.private_id) is))
    ∙ ap (λ (l : List ℕ). Ok l) (same_stream bs image c.args.volume.now.names flat c.private_id.result size)
    ∙ ap (λ (o : Opened). Ok (stream_bytes o.site.block_size image o.extents o.size)) (sym opened.same)

pub returns-clause-exact : goal.returns-clause-exact
returns-clause-exact g c = λ image told lawful.
    unanswered_given image c.args.site.now c.args.volume.now c.args.view.now (opened_bytes image) (contents c.args.site.now.block_size image (view_facts image c.args.site.now c.args.volume.now c.args.view.now) c.args.path.now) c.in-Err-open_stream.stop lawful
    (c.in-Err-open_stream.ensures.present image (c.in-Ok.ensures.kept.same_bytes ∙ told)) c.in-Err-open_stream.ensures.unanswered

pub returns-in-Err-clause-needs : goal.returns-in-Err-clause-needs
returns-in-Err-clause-needs g c image told ordered =
    let facts : Facts = view_facts image c.args.site.now c.args.volume.now c.args.view.now in
    rests_told (Option Opened) (λ (p : Place). p) (found facts c.args.path.now) (PathNeeds facts (HasEntriesOf image c.args.site.now c.args.volume.now c.args.view.now) c.args.path.now) (ContentsNeed image c.args.site.now c.args.volume.now c.args.view.now c.args.path.now) c.in-Err.stop
    (λ a e needs. record { led = needs; extents = λ p there. absurd (ok-err p a (sym there ∙ e)) }) (c.in-Err.ensures.rests image told ordered)

pub returns-in-Some-clause-needs : goal.returns-in-Some-clause-needs
returns-in-Some-clause-needs g c image told ordered =
    let rests = c.in-Ok.ensures.rests image told ordered in
    open_refused image c.args.site.now c.args.volume.now c.args.view.now c.args.path.now c.in-Ok.place c.in-Some.answer rests.1 rests.0 (subst (λ (i : Inode). readable i ≡ Err c.in-Some.answer) c.inode-inode.ensures c.in-Some.ensures)

pub returns-in-None-stream-clause-needs : goal.returns-in-None-stream-clause-needs
returns-in-None-stream-clause-needs g c image told ordered =
    let rests = c.in-Ok.ensures.rests image told ordered in
    open_none image c.args.site.now c.args.volume.now c.args.view.now c.args.path.now c.in-Ok.place rests.1 rests.0 (ap (λ (i : Inode). i.stream) (sym c.inode-inode.ensures) ∙ sym c.in-None-stream.ensures)

pub returns-in-Ok-open_stream-clause-needs : goal.returns-in-Ok-open_stream-clause-needs
returns-in-Ok-open_stream-clause-needs g c image told ordered =
    let rests = c.in-Ok.ensures.rests image told ordered in
    let opened = c.in-Ok-open_stream.ensures.opened image (c.in-Ok.ensures.kept.same_bytes ∙ told) ordered in
    open_whole image c.args.site.now c.args.volume.now c.args.view.now c.args.path.now c.in-Ok.place c.private_id.result rests.1 rests.0 (c.private_id.ensures ∙ ap (λ (i : Inode). i.private_id) c.inode-inode.ensures) opened.whole

pub returns-clause-needs : goal.returns-clause-needs
returns-clause-needs g c image told ordered = untold (Option Opened) (ContentsNeed image c.args.site.now c.args.volume.now c.args.view.now c.args.path.now) c.in-Err-open_stream.stop c.in-Err-open_stream.ensures.unanswered
