use Rattle.std.proofs.Common.{◌≡◌, ◌∙◌, ℕ, List, [], ◌∷◌, Option, true, ap, sym, subst}
use Rattle.std.specs.List.{cons_option}
use Rattle.vol_view.specs.Views.{view_flat, is_view_ordered}
use Rattle.view_rules.specs.Rules.{view_facts}
use Rattle.blk_folder.specs.Items.{Item}
use Rattle.tree_export.specs.Safe.{IsSafe, safe_path}
use Rattle.tree_export.specs.Exported.{put_all}
use Rattle.tree_export.specs.Stopping.{wanted_of}
use Rattle.tree_export.specs.Parts.{put_as, IsPut}
use Rattle.tree_export.proofs.Fills.{front_filled, filled_as, front_as, put_one}
use Rattle.tree_export.proofs.Contents.{put_content}
use Rattle.tree_export.proofs.Stops.{content_stops}
use Rattle.tree_export.proofs.putting.put_item.Goals as goal

pub returns-in-Err-clause-filled : goal.returns-in-Err-clause-filled
returns-in-Err-clause-filled g c = front_filled (g.F.Folder.contents c.args.folder.now) (g.S.BlockSource.bytes c.args.src.now) (λ (image : List ℕ). is_view_ordered image c.args.site.now c.args.volume.now c.args.view.now ≡ true) (λ (image : List ℕ). put_all c.args.site.now.block_size image (view_facts image c.args.site.now c.args.volume.now c.args.view.now) (wanted_of c.args.item.now ∷ []))

pub returns-in-Err-safe_path-clause-filled : goal.returns-in-Err-safe_path-clause-filled
returns-in-Err-safe_path-clause-filled g c = front_filled (g.F.Folder.contents c.args.folder.now) (g.S.BlockSource.bytes c.args.src.now) (λ (image : List ℕ). is_view_ordered image c.args.site.now c.args.volume.now c.args.view.now ≡ true) (λ (image : List ℕ). put_all c.args.site.now.block_size image (view_facts image c.args.site.now c.args.volume.now c.args.view.now) (wanted_of c.args.item.now ∷ []))

pub returns-in-Ok-put_content-clause-filled : goal.returns-in-Ok-put_content-clause-filled
returns-in-Ok-put_content-clause-filled g c =
    filled_as (g.F.Folder.contents c.args.folder.now) (g.F.Folder.contents c.put_content.new.folder) (g.S.BlockSource.bytes c.args.src.now) (g.S.BlockSource.bytes c.content_for.new.src) (λ (image : List ℕ). is_view_ordered image c.args.site.now c.args.volume.now c.args.view.now ≡ true) (λ (image : List ℕ). cons_option (put_as c.args.site.now.block_size image (view_facts image c.args.site.now c.args.volume.now c.args.view.now) c.deref-2.result.now c.in-Ok.content) []) (λ (image : List ℕ). put_all c.args.site.now.block_size image (view_facts image c.args.site.now c.args.volume.now c.args.view.now) (wanted_of c.args.item.now ∷ [])) c.in-Ok.ensures.kept.same_bytes
    (λ image told ordered. ap (λ (o : Option Item). cons_option o []) (ap (λ (p : List ℕ). put_as c.args.site.now.block_size image (view_facts image c.args.site.now c.args.volume.now c.args.view.now) p c.in-Ok.content) (c.deref-2.ensures ∙ (c.in-Ok-safe_path.ensures.written ∙ ap safe_path c.deref.ensures)) ∙ sym (put_content c.args.site.now.block_size image c.args.volume.now.names (view_flat image c.args.site.now c.args.volume.now c.args.view.now) (wanted_of c.args.item.now) c.in-Ok.content (c.in-Ok.ensures.found image told ordered))) ∙ sym (put_one c.args.site.now.block_size image (view_facts image c.args.site.now c.args.volume.now c.args.view.now) (wanted_of c.args.item.now))) c.in-Ok-put_content.ensures.filled

pub returns-in-Ok-put_content-clause-told : goal.returns-in-Ok-put_content-clause-told
returns-in-Ok-put_content-clause-told g c image told ordered =
    subst (λ (o : Option Item). IsPut o c.in-Ok-put_content.put) (ap (λ (p : List ℕ). put_as c.args.site.now.block_size image (view_facts image c.args.site.now c.args.volume.now c.args.view.now) p c.in-Ok.content) (c.deref-2.ensures ∙ (c.in-Ok-safe_path.ensures.written ∙ ap safe_path c.deref.ensures)) ∙ sym (put_content c.args.site.now.block_size image c.args.volume.now.names (view_flat image c.args.site.now c.args.volume.now c.args.view.now) (wanted_of c.args.item.now) c.in-Ok.content (c.in-Ok.ensures.found image told ordered))) (c.in-Ok-put_content.ensures.told image)

pub returns-clause-filled : goal.returns-clause-filled
returns-clause-filled g c =
    front_as (g.F.Folder.contents c.args.folder.now) (g.F.Folder.contents c.put_content.new.folder) (g.S.BlockSource.bytes c.args.src.now) (g.S.BlockSource.bytes c.content_for.new.src) (λ (image : List ℕ). is_view_ordered image c.args.site.now c.args.volume.now c.args.view.now ≡ true) (λ (image : List ℕ). cons_option (put_as c.args.site.now.block_size image (view_facts image c.args.site.now c.args.volume.now c.args.view.now) c.deref-2.result.now c.in-Ok.content) []) (λ (image : List ℕ). put_all c.args.site.now.block_size image (view_facts image c.args.site.now c.args.volume.now c.args.view.now) (wanted_of c.args.item.now ∷ [])) c.in-Ok.ensures.kept.same_bytes
    (λ image told ordered. ap (λ (o : Option Item). cons_option o []) (ap (λ (p : List ℕ). put_as c.args.site.now.block_size image (view_facts image c.args.site.now c.args.volume.now c.args.view.now) p c.in-Ok.content) (c.deref-2.ensures ∙ (c.in-Ok-safe_path.ensures.written ∙ ap safe_path c.deref.ensures)) ∙ sym (put_content c.args.site.now.block_size image c.args.volume.now.names (view_flat image c.args.site.now c.args.volume.now c.args.view.now) (wanted_of c.args.item.now) c.in-Ok.content (c.in-Ok.ensures.found image told ordered))) ∙ sym (put_one c.args.site.now.block_size image (view_facts image c.args.site.now c.args.volume.now c.args.view.now) (wanted_of c.args.item.now))) c.in-Err-put_content.ensures.filled

pub returns-clause-present : goal.returns-clause-present
returns-clause-present g c image told =
    content_stops image c.args.site.now c.args.volume.now c.args.view.now c.args.item.now.id c.in-Ok.content c.in-Err-put_content.stop (c.in-Ok.ensures.record image told)
    (c.in-Err-put_content.ensures.present image (c.in-Ok.ensures.kept.same_bytes ∙ told))

pub put_content-requires-clause-safe : goal.put_content-requires-clause-safe
put_content-requires-clause-safe g c = subst IsSafe (sym c.deref-2.ensures) c.in-Ok-safe_path.ensures.safe
