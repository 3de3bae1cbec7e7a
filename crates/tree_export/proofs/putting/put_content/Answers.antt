use Rattle.std.proofs.Common.{◌≡◌, ℕ, List, [], ◌∷◌, true, refl, ap, sym, subst}
use Rattle.std.specs.List.{cons_option}
use Rattle.vol_view.specs.Views.{is_view_ordered}
use Rattle.view_rules.specs.Rules.{view_facts}
use Rattle.blk_folder.specs.Items.{Item, directory_at, file_at, IsFront}
use Rattle.path_read.specs.Contents.{stream_in}
use Rattle.tree_export.specs.Parts.{put_as}
use Rattle.tree_export.specs.declared.content.Content.{Content}
use Rattle.tree_export.proofs.Fills.{filled_item, front_item, front_all}
use Rattle.tree_export.proofs.Contents.{stream_len}
use Rattle.tree_export.proofs.putting.put_content.Goals as goal

pub returns-in-Ok-clause-filled : goal.returns-in-Ok-clause-filled
returns-in-Ok-clause-filled g c =
    filled_item (g.F.Folder.contents c.args.folder.now) (g.F.Folder.contents c.make_dir.new.self) (g.S.BlockSource.bytes c.args.src.now) (λ (image : List ℕ). is_view_ordered image c.args.site.now c.args.volume.now c.args.view.now ≡ true)
    (λ (image : List ℕ). cons_option (put_as c.args.site.now.block_size image (view_facts image c.args.site.now c.args.volume.now c.args.view.now) c.args.path.now c.args.content) []) (directory_at c.args.path.now) c.requires.safe c.in-Ok.ensures.made (λ image. ap (λ (k : Content). cons_option (put_as c.args.site.now.block_size image (view_facts image c.args.site.now c.args.volume.now c.args.view.now) c.args.path.now k) []) (sym c.in-Directory.is))

pub returns-in-Err-clause-filled : goal.returns-in-Err-clause-filled
returns-in-Err-clause-filled g c =
    front_item (g.F.Folder.contents c.args.folder.now) (g.F.Folder.contents c.make_dir.new.self) (g.S.BlockSource.bytes c.args.src.now) (λ (image : List ℕ). is_view_ordered image c.args.site.now c.args.volume.now c.args.view.now ≡ true)
    (λ (image : List ℕ). cons_option (put_as c.args.site.now.block_size image (view_facts image c.args.site.now c.args.volume.now c.args.view.now) c.args.path.now c.args.content) []) (directory_at c.args.path.now) c.requires.safe c.in-Err.ensures.part (λ image. subst (λ (l : List Item). IsFront (directory_at c.args.path.now ∷ []) l) (ap (λ (k : Content). cons_option (put_as c.args.site.now.block_size image (view_facts image c.args.site.now c.args.volume.now c.args.view.now) c.args.path.now k) []) (sym c.in-Directory.is)) (front_all (directory_at c.args.path.now ∷ [])))

pub returns-in-Ok-start_file-clause-filled : goal.returns-in-Ok-start_file-clause-filled
returns-in-Ok-start_file-clause-filled g c =
    filled_item (g.F.Folder.contents c.args.folder.now) (g.F.Folder.contents c.start_file.new.self) (g.S.BlockSource.bytes c.args.src.now) (λ (image : List ℕ). is_view_ordered image c.args.site.now c.args.volume.now c.args.view.now ≡ true)
    (λ (image : List ℕ). cons_option (put_as c.args.site.now.block_size image (view_facts image c.args.site.now c.args.volume.now c.args.view.now) c.args.path.now c.args.content) []) (file_at c.args.path.now []) c.requires.safe c.in-Ok-start_file.ensures.started (λ image. ap (λ (k : Content). cons_option (put_as c.args.site.now.block_size image (view_facts image c.args.site.now c.args.volume.now c.args.view.now) c.args.path.now k) []) (sym c.in-Empty.is))

pub returns-in-Err-start_file-clause-filled : goal.returns-in-Err-start_file-clause-filled
returns-in-Err-start_file-clause-filled g c =
    front_item (g.F.Folder.contents c.args.folder.now) (g.F.Folder.contents c.start_file.new.self) (g.S.BlockSource.bytes c.args.src.now) (λ (image : List ℕ). is_view_ordered image c.args.site.now c.args.volume.now c.args.view.now ≡ true)
    (λ (image : List ℕ). cons_option (put_as c.args.site.now.block_size image (view_facts image c.args.site.now c.args.volume.now c.args.view.now) c.args.path.now c.args.content) []) (file_at c.args.path.now []) c.requires.safe c.in-Err-start_file.ensures.part (λ image. subst (λ (l : List Item). IsFront (file_at c.args.path.now [] ∷ []) l) (ap (λ (k : Content). cons_option (put_as c.args.site.now.block_size image (view_facts image c.args.site.now c.args.volume.now c.args.view.now) c.args.path.now k) []) (sym c.in-Empty.is)) (front_all (file_at c.args.path.now [] ∷ [])))

pub returns-in-Ok-clause-told : goal.returns-in-Ok-clause-told
returns-in-Ok-clause-told g c image = (c.args.path.now, ap (λ (k : Content). put_as c.args.site.now.block_size image (view_facts image c.args.site.now c.args.volume.now c.args.view.now) c.args.path.now k) c.in-Directory.is)

pub returns-in-Ok-start_file-clause-told : goal.returns-in-Ok-start_file-clause-told
returns-in-Ok-start_file-clause-told g c image = (c.args.path.now, [], ap (λ (k : Content). put_as c.args.site.now.block_size image (view_facts image c.args.site.now c.args.volume.now c.args.view.now) c.args.path.now k) c.in-Empty.is, refl)

pub returns-in-Ok-put_file-clause-told : goal.returns-in-Ok-put_file-clause-told
returns-in-Ok-put_file-clause-told g c image =
    let facts = view_facts image c.args.site.now c.args.volume.now c.args.view.now in
    (c.args.path.now, stream_in c.args.site.now.block_size image facts c.in-Stream.stream c.in-Stream.size, ap (λ (k : Content). put_as c.args.site.now.block_size image (view_facts image c.args.site.now c.args.volume.now c.args.view.now) c.args.path.now k) c.in-Stream.is, stream_len c.args.site.now.block_size image facts c.in-Stream.stream c.in-Stream.size)
