use Rattle.std.proofs.Common.{◌≡◌, ℕ, List, [], ◌∷◌, true, refl}
use Rattle.file_extent.specs.Streams.{stream_bytes}
use Rattle.vol_view.specs.Views.{is_view_ordered}
use Rattle.view_rules.specs.Rules.{view_facts}
use Rattle.path_read.specs.Contents.{stream_in}
use Rattle.path_read.proofs.Givens.{stream_opened}
use Rattle.blk_folder.specs.Items.{file_at}
use Rattle.tree_export.proofs.Fills.{front_filled, front_item, front_file, filled_file, front_bytes}
use Rattle.tree_export.proofs.Stops.{stream_stops}
use Rattle.tree_export.proofs.putting.put_file.Goals as goal

pub returns-in-Err-clause-filled : goal.returns-in-Err-clause-filled
returns-in-Err-clause-filled g c =
    front_filled (g.F.Folder.contents c.args.folder.now) (g.S.BlockSource.bytes c.args.src.now) (λ (image : List ℕ). is_view_ordered image c.args.site.now c.args.volume.now c.args.view.now ≡ true)
    (λ (image : List ℕ). file_at c.args.path.now (stream_in c.args.site.now.block_size image (view_facts image c.args.site.now c.args.volume.now c.args.view.now) c.args.stream c.args.size) ∷ [])

pub returns-in-Err-clause-present : goal.returns-in-Err-clause-present
returns-in-Err-clause-present g c image told =
    stream_stops image c.args.site.now c.args.volume.now c.args.view.now c.args.id c.args.stream c.in-Err.stop c.raise.result c.raise.ensures (c.in-Err.ensures.present image told)

pub returns-in-Err-start_file-clause-filled : goal.returns-in-Err-start_file-clause-filled
returns-in-Err-start_file-clause-filled g c =
    front_item (g.F.Folder.contents c.args.folder.now) (g.F.Folder.contents c.start_file.new.self) (g.S.BlockSource.bytes c.args.src.now) (λ (image : List ℕ). is_view_ordered image c.args.site.now c.args.volume.now c.args.view.now ≡ true)
    (λ (image : List ℕ). file_at c.args.path.now (stream_in c.args.site.now.block_size image (view_facts image c.args.site.now c.args.volume.now c.args.view.now) c.args.stream c.args.size) ∷ [])
    (file_at c.args.path.now []) c.requires.safe c.in-Err-start_file.ensures.part
    (λ image. let bytes : List ℕ = stream_in c.args.site.now.block_size image (view_facts image c.args.site.now c.args.volume.now c.args.view.now) c.args.stream c.args.size in front_file c.args.path.now bytes [] bytes refl)

pub returns-in-Ok-put_pieces-clause-filled : goal.returns-in-Ok-put_pieces-clause-filled
returns-in-Ok-put_pieces-clause-filled g c =
    filled_file (g.F.Folder.contents c.args.folder.now) (g.F.Folder.contents c.start_file.new.self) (g.F.Folder.contents c.put_pieces.new.folder) (g.S.BlockSource.bytes c.args.src.now) (g.S.BlockSource.bytes c.start.new.src)
    (λ (image : List ℕ). is_view_ordered image c.args.site.now c.args.volume.now c.args.view.now ≡ true) c.args.path.now
    (λ (image : List ℕ). stream_in c.args.site.now.block_size image (view_facts image c.args.site.now c.args.volume.now c.args.view.now) c.args.stream c.args.size)
    (λ (image : List ℕ). stream_bytes c.in-Ok.stream.site.block_size image c.in-Ok.stream.extents c.in-Ok.stream.size)
    c.in-Ok.ensures.kept.same_bytes c.requires.safe c.in-Ok-start_file.ensures.started c.in-Ok-put_pieces.ensures.text
    (λ image told ordered. stream_opened image c.args.site.now c.args.volume.now c.args.view.now c.args.stream c.args.size c.in-Ok.stream (c.in-Ok.ensures.clear image told ordered))

pub returns-in-Err-ReadFault-clause-filled : goal.returns-in-Err-ReadFault-clause-filled
returns-in-Err-ReadFault-clause-filled g c =
    front_bytes (g.F.Folder.contents c.args.folder.now) (g.F.Folder.contents c.start_file.new.self) (g.F.Folder.contents c.put_pieces.new.folder) (g.S.BlockSource.bytes c.args.src.now) (g.S.BlockSource.bytes c.start.new.src)
    (λ (image : List ℕ). is_view_ordered image c.args.site.now c.args.volume.now c.args.view.now ≡ true) c.args.path.now
    (λ (image : List ℕ). stream_in c.args.site.now.block_size image (view_facts image c.args.site.now c.args.volume.now c.args.view.now) c.args.stream c.args.size)
    (λ (image : List ℕ). stream_bytes c.in-Ok.stream.site.block_size image c.in-Ok.stream.extents c.in-Ok.stream.size)
    c.in-Ok.ensures.kept.same_bytes c.requires.safe c.in-Ok-start_file.ensures.started c.in-Err-ReadFault.ensures.text
    (λ image told ordered. stream_opened image c.args.site.now c.args.volume.now c.args.view.now c.args.stream c.args.size c.in-Ok.stream (c.in-Ok.ensures.clear image told ordered))

pub returns-clause-filled : goal.returns-clause-filled
returns-clause-filled g c =
    front_bytes (g.F.Folder.contents c.args.folder.now) (g.F.Folder.contents c.start_file.new.self) (g.F.Folder.contents c.put_pieces.new.folder) (g.S.BlockSource.bytes c.args.src.now) (g.S.BlockSource.bytes c.start.new.src)
    (λ (image : List ℕ). is_view_ordered image c.args.site.now c.args.volume.now c.args.view.now ≡ true) c.args.path.now
    (λ (image : List ℕ). stream_in c.args.site.now.block_size image (view_facts image c.args.site.now c.args.volume.now c.args.view.now) c.args.stream c.args.size)
    (λ (image : List ℕ). stream_bytes c.in-Ok.stream.site.block_size image c.in-Ok.stream.extents c.in-Ok.stream.size)
    c.in-Ok.ensures.kept.same_bytes c.requires.safe c.in-Ok-start_file.ensures.started c.in-Err-WriteFault.ensures.text
    (λ image told ordered. stream_opened image c.args.site.now c.args.volume.now c.args.view.now c.args.stream c.args.size c.in-Ok.stream (c.in-Ok.ensures.clear image told ordered))
